-- What is not next.
use Rattle.std.proofs.Common.{◌≡◌, ℕ, Bool, true, false, List, [], ◌∷◌, ◌++◌, map, nat_eq, Some, None, refl, sym, ap, true≢false}
use Rattle.syn_grammar.specs.Words.{Text, keywords, contextual}
use Rattle.syn_grammar.specs.Tokens.{Span, Delimiter, LitKind, Int, Leaf, ident, literal, Stream, end, leaf, punct, group, pick, one_of_texts, Name, Word, Literal, mem, leaf_terminal}
use Rattle.syn_grammar.specs.Grammar.{Kind, name, identifier, word, name_or, literal_of, index, fits, Syntax, Token}
use Rattle.syn_grammar.specs.Take.{Out, only, take_token, add_char, marked, take_mark, take_lifetime}
use Rattle.syn_tokens.specs.Firsts.{NoIdentFirst, NoPunctFirst}
use Rattle.syn_parse.specs.FirstTokens.{is_of_idents, is_of_literals, spelled, NoIdent, NoLiteral, NoPunct}

literal_mem : (k : LitKind) (l : List Text) → mem (Literal k) (map Word l) ≡ false
literal_mem k [] = refl
literal_mem k (x ∷ l) = literal_mem k l

word_mem : (x : Text) (l : List LitKind) → mem (Word x) (map Literal l) ≡ false
word_mem x [] = refl
word_mem x (k ∷ l) = word_mem x l

name_mem : (l : List LitKind) → mem Name (map Literal l) ≡ false
name_mem [] = refl
name_mem (k ∷ l) = name_mem l

ident_mem : (x : Text) (l : List LitKind) → mem (leaf_terminal (ident x)) (map Literal l) ≡ false
ident_mem x l = go (one_of_texts x (keywords ++ contextual))
  where
    go : (b : Bool) → mem (pick b (Word x) Name) (map Literal l) ≡ false
    go true = word_mem x l
    go false = name_mem l

ident_misfit : (k : Kind) → is_of_literals k ≡ true → (x : Text) → fits k (ident x) ≡ false
ident_misfit (literal_of l) e x = ident_mem x l
ident_misfit index e x = ident_mem x (Int ∷ [])
ident_misfit name e x = absurd (true≢false (sym e))
ident_misfit identifier e x = absurd (true≢false (sym e))
ident_misfit (word y) e x = absurd (true≢false (sym e))
ident_misfit (name_or l) e x = absurd (true≢false (sym e))

literal_misfit : (k : Kind) → is_of_idents k ≡ true → (l : LitKind) (x : Text) → fits k (literal l x) ≡ false
literal_misfit name e l x = literal_mem l contextual
literal_misfit identifier e l x = literal_mem l (keywords ++ contextual)
literal_misfit (word y) e l x = refl
literal_misfit (name_or ys) e l x = literal_mem l (contextual ++ ys)
literal_misfit (literal_of ks) e l x = absurd (true≢false (sym e))
literal_misfit index e l x = absurd (true≢false (sym e))

abbrev taken_if : Bool → Syntax → Stream → Out
taken_if b s r = only b (Some (s, r))

pub no_ident_at_literal : (l : LitKind) (x : Text) (sp : Span) (r : Stream) → NoIdent (leaf (literal l x) sp r)
unfolding take_token
no_ident_at_literal l x sp r k e = ap (λ b. taken_if b (Token (literal l x) sp) r) (literal_misfit k e l x)

pub no_ident_first : (ts : Stream) → NoIdentFirst ts → NoIdent ts
unfolding take_token
no_ident_first end n k e = refl
no_ident_first (leaf (ident x) sp r) n k e = absurd n
no_ident_first (leaf (literal l x) sp r) n k e = no_ident_at_literal l x sp r k e
no_ident_first (punct c j sp r) n k e = refl
no_ident_first (group d o q i r) n k e = refl

pub no_literal_at_ident : (x : Text) (sp : Span) (r : Stream) → NoLiteral (leaf (ident x) sp r)
unfolding take_token
no_literal_at_ident x sp r k e = ap (λ b. taken_if b (Token (ident x) sp) r) (ident_misfit k e x)

none_spelled_at_leaf : (x : Leaf) (sp : Span) (r : Stream) (cs : Text) → spelled cs (leaf x sp r) ≡ None
unfolding spelled
none_spelled_at_leaf x sp r [] = refl
none_spelled_at_leaf x sp r (c ∷ []) = refl
none_spelled_at_leaf x sp r (c ∷ e ∷ l) = refl

none_spelled_at_group : (d : Delimiter) (o q : Span) (i r : Stream) (cs : Text) → spelled cs (group d o q i r) ≡ None
unfolding spelled
none_spelled_at_group d o q i r [] = refl
none_spelled_at_group d o q i r (c ∷ []) = refl
none_spelled_at_group d o q i r (c ∷ e ∷ l) = refl

none_spelled_at_end : (cs : Text) → spelled cs end ≡ None
unfolding spelled
none_spelled_at_end [] = refl
none_spelled_at_end (c ∷ []) = refl
none_spelled_at_end (c ∷ e ∷ l) = refl

pub no_punct_first : (ts : Stream) → NoPunctFirst ts → NoPunct ts
unfolding take_lifetime
no_punct_first end n = (none_spelled_at_end, refl)
no_punct_first (leaf x sp r) n = (none_spelled_at_leaf x sp r, refl)
no_punct_first (punct c j sp r) n = absurd n
no_punct_first (group d o q i r) n = (none_spelled_at_group d o q i r, refl)

-- a mark is its characters
pub mark_is : (x : Text) (ts : Stream) → take_mark x ts ≡ marked (spelled x ts)
unfolding take_mark spelled
mark_is x ts = refl

-- the last character, whatever its spacing
pub last_is : (c d : ℕ) (j : Bool) (sp : Span) (r : Stream) → spelled (c ∷ []) (punct d j sp r) ≡ only (nat_eq d c) (Some ((d, sp) ∷ [], r))
unfolding spelled
last_is c d j sp r = refl

-- a character before others is joint to the next
pub joint_is : (c e d : ℕ) (l : Text) (sp : Span) (r : Stream) → spelled (c ∷ e ∷ l) (punct d true sp r) ≡ only (nat_eq d c) (add_char d sp (spelled (e ∷ l) r))
unfolding spelled
joint_is c e d l sp r = refl

pub alone_is : (c e d : ℕ) (l : Text) (sp : Span) (r : Stream) → spelled (c ∷ e ∷ l) (punct d false sp r) ≡ None
unfolding spelled
alone_is c e d l sp r = refl
