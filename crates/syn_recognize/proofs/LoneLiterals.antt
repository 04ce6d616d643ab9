-- A literal is a whole expression where nothing or a comma follows it, and a whole constant anywhere.
use Rattle.std.proofs.Common.{◌≡◌, ℕ, zero, suc, ◌+◌, ◌≤◌, Bool, true, false, List, [], ◌∷◌, nat_eq, Option, Some, None, refl, sym, ap, ◌∙◌, subst, true≢false, arith, ◌⊎◌, inl, inr}
use Rattle.std.proofs.lemmas.Bool.{eqb-true}
use Rattle.std.specs.Prelude.{Result, Ok, Err}
use Rattle.syn_grammar.specs.Words.{Text, comma, semicolon}
use Rattle.syn_grammar.specs.Tokens.{Span, LitKind, Str, ByteStr, CStr, Byte, Char, Int, Float, ident, literal, Stream, end, leaf, punct, group, pick, Terminal, Ended, Name, Word, Punctuation, Literal, Delimited, Fact, Lookahead, lookahead_with, punctuation_lookahead, lookahead, Look, ended, at_mark, answers, or}
use Rattle.syn_grammar.specs.Rules.{Rule, constant, whole_expression}
use Rattle.syn_grammar.specs.Shape.{Lit}
use Rattle.syn_grammar.specs.Grammar.{Syntax, Nothing, Token, Both, Left, Right, Node, Unshown, Kind, any_literal, fits, Grammar, empty, token, ◌&◌, when◌then◌else◌, rule, shaped, unshown, show, print}
use Rattle.syn_grammar.specs.Values.{shape, new}
use Rattle.syn_grammar.specs.Table.{table}
use Rattle.syn_grammar.specs.Take.{Out, Parser, only, left, is_end, lookahead_at, sees, take_token, marked, take_mark, taken}
use Rattle.syn_grammar.specs.Run.{wrap, and_then, branch, parse_form, parse_rule}
use Rattle.syn_grammar.proofs.Sets.{or_split, and_left, and_right}
use Rattle.syn_grammar.proofs.Looks.{sees_ended, sees_one}
use Rattle.syn_grammar.proofs.Run.{parse_rule_is}
use Rattle.syn_parse.specs.FirstTokens.{at_any_literal}
use Rattle.syn_parse.proofs.FirstTokens.{no_literal_at_ident}
use Rattle.syn_parse.proofs.Literals.{no_literal_seen}
use Rattle.syn_parse.proofs.Words.{take_literal}
use Rattle.syn_recognize.specs.Copies.{least}
use Rattle.syn_recognize.specs.DeferredTokens.{kind_rule}
use Rattle.syn_recognize.specs.LoneLiterals.{is_over, is_lone_literal, ShowsLiteral}
use Rattle.syn_recognize.specs.Printed.{ShowsAndPrints}
use Rattle.syn_recognize.specs.declared.reading.ShownAndPrinted.{ShownAndPrinted}

-- ---- what is read of a literal, by the tokens after it
module _ (k : LitKind) (x : Text) (sp : Span) (following : Lookahead) where
  -- a tree, and whether the rest begins at the literal (true) or after it
  abbrev Walk : Type 0
  Walk = Option (Syntax × Bool)

  abbrev with_tree : (Syntax → Syntax) → Walk → Walk
  with_tree f (Some p) = Some (f p.0, p.1)
  with_tree f None = None

  abbrev in_turn : Walk → (Bool → Walk) → Walk
  in_turn (Some p) q = with_tree (Both p.0) (q p.1)
  in_turn None q = None

  abbrev next_at : Bool → Lookahead
  next_at true = lookahead_with (Literal k) []
  next_at false = following

  abbrev token_at : Bool → Kind → Walk
  token_at true q = only (fits q (literal k x)) (Some (Token (literal k x) sp, false))
  token_at false q = None

  abbrev walk : (Rule → Bool → Walk) → Grammar → Bool → Walk
  walk deep empty b = Some (Nothing, b)
  walk deep unshown b = Some (Unshown Nothing, b)
  walk deep (token l q) b = token_at b q
  walk deep (g & h) b = in_turn (walk deep g b) (walk deep h)
  walk deep (when c then g else h) b = pick (answers c (next_at b)) (with_tree Left (walk deep g b)) (with_tree Right (walk deep h b))
  walk deep (shaped j g) b = with_tree (shape j) (walk deep g b)
  walk deep (rule q) b = deep q b
  walk deep _ b = None

  -- so many rules deep
  abbrev walk_rule : ℕ → Rule → Bool → Walk
  walk_rule zero q b = None
  walk_rule (suc n) q b = with_tree Node (walk (walk_rule n) (table q) b)

  module _ (r : Stream) (e : lookahead r ≡ following) where
    abbrev stream_at : Bool → Stream
    stream_at true = leaf (literal k x) sp r
    stream_at false = r

    -- what was walked is computed
    abbrev Is : Walk → Out → Type 0
    Is (Some p) o = o ≡ Some (p.0, stream_at p.1)
    Is None o = Unit {0}

    is_with : (f : Syntax → Syntax) (w : Walk) (o : Out) → Is w o → Is (with_tree f w) (wrap f o)
    is_with f (Some p) o h = ap (wrap f) h
    is_with f None o h = tt

    is_in_turn : (w : Walk) (q : Bool → Walk) (o : Out) (P : Parser) → Is w o → ((b : Bool) → Is (q b) (P (stream_at b))) → Is (in_turn w q) (and_then o P)
    is_in_turn (Some p) q o P h ih = subst (λ z. Is (with_tree (Both p.0) (q p.1)) (and_then z P)) (sym h) (is_with (Both p.0) (q p.1) (P (stream_at p.1)) (ih p.1))
    is_in_turn None q o P h ih = tt

    is_either : (c d : Bool) (v w : Walk) (o i : Out) → d ≡ c → Is v o → Is w i → Is (pick c (with_tree Left v) (with_tree Right w)) (branch d o i)
    is_either true d v w o i f a b = subst (λ z. Is (with_tree Left v) (branch z o i)) (sym f) (is_with Left v o a)
    is_either false d v w o i f a b = subst (λ z. Is (with_tree Right w) (branch z o i)) (sym f) (is_with Right w i b)

    sees_at : (c : Look) (b : Bool) → sees c (stream_at b) ≡ answers c (next_at b)
    unfolding sees lookahead_at
    sees_at c true = refl
    sees_at c false = ap (answers c) e

    is_token : (q : Kind) (b : Bool) → Is (token_at b q) (take_token q (stream_at b))
    unfolding take_token
    is_token q true = go (fits q (literal k x))
      where
        go : (v : Bool) → Is (only v (Some (Token (literal k x) sp, false))) (only v (Some (Token (literal k x) sp, r)))
        go true = refl
        go false = tt
    is_token q false = tt

    is_walk : (deep : Rule → Bool → Walk) → ((q : Rule) (b : Bool) → Is (deep q b) (parse_rule q (stream_at b))) → (g : Grammar) (b : Bool) → Is (walk deep g b) (parse_form g (stream_at b))
    is_walk deep law empty b = refl
    is_walk deep law unshown b = refl
    is_walk deep law (token l q) b = is_token q b
    is_walk deep law (g & h) b = is_in_turn (walk deep g b) (walk deep h) (parse_form g (stream_at b)) (parse_form h) (is_walk deep law g b) (is_walk deep law h)
    is_walk deep law (when c then g else h) b =
        is_either (answers c (next_at b)) (sees c (stream_at b)) (walk deep g b) (walk deep h b) (parse_form g (stream_at b)) (parse_form h (stream_at b)) (sees_at c b) (is_walk deep law g b) (is_walk deep law h b)
    is_walk deep law (shaped j g) b = is_with (shape j) (walk deep g b) (parse_form g (stream_at b)) (is_walk deep law g b)
    is_walk deep law (rule q) b = law q b
    is_walk deep law _ b = tt

    is_walk_rule : (n : ℕ) (q : Rule) (b : Bool) → Is (walk_rule n q b) (parse_rule q (stream_at b))
    is_walk_rule zero q b = tt
    is_walk_rule (suc n) q b =
        subst (λ o. Is (walk_rule (suc n) q b) o) (sym (parse_rule_is q (stream_at b))) (is_with Node (walk (walk_rule n) (table q) b) (parse_form (table q) (stream_at b)) (is_walk (walk_rule n) (is_walk_rule n) (table q) b))

    walked : (n : ℕ) (q : Rule) (s : Syntax) → walk_rule n q true ≡ Some (s, false) → parse_rule q (leaf (literal k x) sp r) ≡ Some (s, r)
    walked n q s f = subst (λ w. Is w (parse_rule q (leaf (literal k x) sp r))) f (is_walk_rule n q true)

-- ---- an expression, and a constant
abbrev lone : LitKind → Text → Span → Syntax
lone k x sp = Node (new Lit (Token (literal k x) sp))

nothing_after : Lookahead
nothing_after = lookahead_with Ended []

comma_after : Lookahead
comma_after = lookahead_with (Punctuation (44 ∷ [])) []

semicolon_after : Lookahead
semicolon_after = lookahead_with (Punctuation (59 ∷ [])) []

whole_at_end : (k : LitKind) (x : Text) (sp : Span) → walk_rule k x sp nothing_after 16 whole_expression true ≡ Some (lone k x sp, false)
unfolding nothing_after
whole_at_end Str x sp = refl
whole_at_end ByteStr x sp = refl
whole_at_end CStr x sp = refl
whole_at_end Byte x sp = refl
whole_at_end Char x sp = refl
whole_at_end Int x sp = refl
whole_at_end Float x sp = refl

whole_at_comma : (k : LitKind) (x : Text) (sp : Span) → walk_rule k x sp comma_after 16 whole_expression true ≡ Some (lone k x sp, false)
unfolding comma_after
whole_at_comma Str x sp = refl
whole_at_comma ByteStr x sp = refl
whole_at_comma CStr x sp = refl
whole_at_comma Byte x sp = refl
whole_at_comma Char x sp = refl
whole_at_comma Int x sp = refl
whole_at_comma Float x sp = refl

whole_at_semicolon : (k : LitKind) (x : Text) (sp : Span) → walk_rule k x sp semicolon_after 16 whole_expression true ≡ Some (lone k x sp, false)
unfolding semicolon_after
whole_at_semicolon Str x sp = refl
whole_at_semicolon ByteStr x sp = refl
whole_at_semicolon CStr x sp = refl
whole_at_semicolon Byte x sp = refl
whole_at_semicolon Char x sp = refl
whole_at_semicolon Int x sp = refl
whole_at_semicolon Float x sp = refl

constant_before : (k : LitKind) (x : Text) (sp : Span) (following : Lookahead) → walk_rule k x sp following 2 constant true ≡ Some (lone k x sp, false)
constant_before Str x sp following = refl
constant_before ByteStr x sp following = refl
constant_before CStr x sp following = refl
constant_before Byte x sp following = refl
constant_before Char x sp following = refl
constant_before Int x sp following = refl
constant_before Float x sp following = refl

-- ---- the tokens after it
at_end : (r : Stream) → sees ended r ≡ true → lookahead r ≡ nothing_after
unfolding is_end nothing_after
at_end r e = go r (sym (sees_ended r) ∙ e)
  where
    go : (r : Stream) → is_end r ≡ true → lookahead r ≡ nothing_after
    go end h = refl
    go (leaf x sp m) h = absurd (true≢false (sym h))
    go (punct c j sp m) h = absurd (true≢false (sym h))
    go (group d o c i m) h = absurd (true≢false (sym h))

-- a comma begins no longer mark, and depends on nothing after it
comma_alone : (j : Bool) (f : Terminal) (l : List Fact) → punctuation_lookahead 44 j (lookahead_with f l) ≡ comma_after
unfolding comma_after
comma_alone false f l = refl
comma_alone true Ended l = refl
comma_alone true Name l = refl
comma_alone true (Word x) l = refl
comma_alone true (Punctuation x) l = refl
comma_alone true (Literal k) l = refl
comma_alone true (Delimited d v) l = refl

at_comma : (r : Stream) → sees (at_mark comma) r ≡ true → lookahead r ≡ comma_after
unfolding take_mark
at_comma r e = go r (sym (sees_one 44 r) ∙ e)
  where
    go : (r : Stream) → taken (take_mark (44 ∷ []) r) ≡ true → lookahead r ≡ comma_after
    go end h = absurd (true≢false (sym h))
    go (leaf x sp m) h = absurd (true≢false (sym h))
    go (punct c j sp m) h = char (nat_eq c 44) refl h
      where
        char : (b : Bool) → nat_eq c 44 ≡ b → taken (marked (only b (Some ((c, sp) ∷ [], m)))) ≡ true → lookahead (punct c j sp m) ≡ comma_after
        char true q h = subst (λ d. lookahead (punct d j sp m) ≡ comma_after) (sym (eqb-true c 44 q)) (comma_alone j (lookahead m).terminal (lookahead m).facts)
        char false q h = absurd (true≢false (sym h))
    go (group d o c i m) h = absurd (true≢false (sym h))

-- neither does a semicolon
semicolon_alone : (j : Bool) (f : Terminal) (l : List Fact) → punctuation_lookahead 59 j (lookahead_with f l) ≡ semicolon_after
unfolding semicolon_after
semicolon_alone false f l = refl
semicolon_alone true Ended l = refl
semicolon_alone true Name l = refl
semicolon_alone true (Word x) l = refl
semicolon_alone true (Punctuation x) l = refl
semicolon_alone true (Literal k) l = refl
semicolon_alone true (Delimited d v) l = refl

at_semicolon : (r : Stream) → sees (at_mark semicolon) r ≡ true → lookahead r ≡ semicolon_after
unfolding take_mark
at_semicolon r e = go r (sym (sees_one 59 r) ∙ e)
  where
    go : (r : Stream) → taken (take_mark (59 ∷ []) r) ≡ true → lookahead r ≡ semicolon_after
    go end h = absurd (true≢false (sym h))
    go (leaf x sp m) h = absurd (true≢false (sym h))
    go (punct c j sp m) h = char (nat_eq c 59) refl h
      where
        char : (b : Bool) → nat_eq c 59 ≡ b → taken (marked (only b (Some ((c, sp) ∷ [], m)))) ≡ true → lookahead (punct c j sp m) ≡ semicolon_after
        char true q h = subst (λ d. lookahead (punct d j sp m) ≡ semicolon_after) (sym (eqb-true c 59 q)) (semicolon_alone j (lookahead m).terminal (lookahead m).facts)
        char false q h = absurd (true≢false (sym h))
    go (group d o c i m) h = absurd (true≢false (sym h))

-- ---- a tree of any kind
is_read : (n : ℕ) (k : LitKind) (x : Text) (sp : Span) (r : Stream) → is_over n (leaf (literal k x) sp r) ≡ true → parse_rule (kind_rule n) (leaf (literal k x) sp r) ≡ Some (lone k x sp, r)
is_read zero k x sp r h = go (or_split (sees ended r) (or (sees (at_mark comma) r) (sees (at_mark semicolon) r)) h)
  where
    mark : (sees (at_mark comma) r ≡ true) ⊎ (sees (at_mark semicolon) r ≡ true) → parse_rule whole_expression (leaf (literal k x) sp r) ≡ Some (lone k x sp, r)
    mark (inl e) = walked k x sp comma_after r (at_comma r e) 16 whole_expression (lone k x sp) (whole_at_comma k x sp)
    mark (inr e) = walked k x sp semicolon_after r (at_semicolon r e) 16 whole_expression (lone k x sp) (whole_at_semicolon k x sp)

    go : (sees ended r ≡ true) ⊎ (or (sees (at_mark comma) r) (sees (at_mark semicolon) r) ≡ true) → parse_rule whole_expression (leaf (literal k x) sp r) ≡ Some (lone k x sp, r)
    go (inl e) = walked k x sp nothing_after r (at_end r e) 16 whole_expression (lone k x sp) (whole_at_end k x sp)
    go (inr e) = mark (or_split (sees (at_mark comma) r) (sees (at_mark semicolon) r) e)
is_read (suc zero) k x sp r h = walked k x sp (lookahead r) r refl 2 constant (lone k x sp) (constant_before k x sp (lookahead r))
is_read (suc (suc n)) k x sp r h = absurd (true≢false (sym h))

abbrev Literally : Stream → Stream → Stream → Stream → Type 0
Literally ts r i j = (s : Syntax) × (take_token any_literal ts ≡ Some (s, r)) × (i ≡ show s) × (j ≡ show s)

abbrev Written : ℕ → Stream → Stream → Stream → Stream → Type 0
Written n ts r i j = (s : Syntax) × (parse_rule (kind_rule n) ts ≡ Some (s, r)) × (i ≡ show s) × (j ≡ print s)

tree_or : Syntax → Out → Syntax
tree_or s (Some p) = p.0
tree_or s None = s

rest_or : Stream → Out → Stream
rest_or r (Some p) = p.1
rest_or r None = r

same_tree : (s t : Syntax) (q r : Stream) → ◌≡◌ {A = Out} (Some (s, q)) (Some (t, r)) → s ≡ t
unfolding tree_or
same_tree s t q r e = ap (tree_or s) e

same_rest : (s t : Syntax) (q r : Stream) → ◌≡◌ {A = Out} (Some (s, q)) (Some (t, r)) → q ≡ r
unfolding rest_or
same_rest s t q r e = ap (rest_or q) e

lone_read : (n : ℕ) (ts r i j : Stream) → is_lone_literal n ts ≡ true → Literally ts r i j → Written n ts r i j
unfolding take_token is_lone_literal
lone_read n end r i j h (s, e, f, g) = absurd (cc e)
lone_read n (punct c b sp m) r i j h (s, e, f, g) = absurd (cc e)
lone_read n (group d o c m q) r i j h (s, e, f, g) = absurd (cc e)
lone_read n (leaf (ident x) sp m) r i j h (s, e, f, g) = absurd (cc (sym (no_literal_at_ident x sp m any_literal refl) ∙ e))
lone_read n (leaf (literal k x) sp m) r i j h (s, e, f, g) =
    let both = sym (take_literal k x sp m) ∙ e in
    let tree : s ≡ Token (literal k x) sp = sym (same_tree (Token (literal k x) sp) s m r both) in
    let over = and_right (sees at_any_literal (leaf (literal k x) sp m)) _ h in
    (lone k x sp, is_read n k x sp m over ∙ ap (λ z. Some (lone k x sp, z)) (same_rest (Token (literal k x) sp) s m r both), f ∙ ap show tree, g ∙ ap show tree)

-- where a literal is next, one is taken
no_literal_here : (ts : Stream) → take_token any_literal ts ≡ None → sees at_any_literal ts ≡ false
unfolding take_token
no_literal_here end e = no_literal_seen end (λ k h. refl)
no_literal_here (leaf (ident x) sp m) e = no_literal_seen (leaf (ident x) sp m) (no_literal_at_ident x sp m)
no_literal_here (leaf (literal k x) sp m) e = absurd (cc (sym e ∙ take_literal k x sp m))
no_literal_here (punct c j sp m) e = no_literal_seen (punct c j sp m) (λ k h. refl)
no_literal_here (group d o c i m) e = no_literal_seen (group d o c i m) (λ k h. refl)

lone_refused : (n : ℕ) (ts : Stream) → is_lone_literal n ts ≡ true → take_token any_literal ts ≡ None → parse_rule (kind_rule n) ts ≡ None
unfolding is_lone_literal
lone_refused n ts h e = absurd (true≢false (sym (and_left (sees at_any_literal ts) _ h) ∙ no_literal_here ts e))

pub lone_moved : (n : ℕ) (ts r : Stream) → left r + 1 ≤ left ts → left r + least (kind_rule n) ≤ left ts
lone_moved zero ts r h = h
lone_moved (suc zero) ts r h = h
lone_moved (suc (suc zero)) ts r h = h
lone_moved (suc (suc (suc zero))) ts r h = omega (arith, h)
lone_moved (suc (suc (suc (suc n)))) ts r h = omega (arith, h)

-- so the literal's promise is the tree's
pub lone_promised : {E : Type 0} (refusal : E → Type 0) (n : ℕ) (ts : Stream) (result : Result ShownAndPrinted E) (r : Stream) → is_lone_literal n ts ≡ true → ShowsLiteral refusal ts result r → ShowsAndPrints refusal (kind_rule n) ts result r
lone_promised refusal n ts (Ok tokens) r h a = lone_read n ts r tokens.shown tokens.printed h a
lone_promised refusal n ts (Err e) r h a = λ f. lone_refused n ts h (a f)
