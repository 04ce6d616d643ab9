-- Equality up to spans, as tests: of streams and of syntax trees.
use Rattle.std.specs.Prelude.{◌≡◌, ◌↔◌, ℕ, Bool, true, false, List, [], ◌∷◌, nat_eq}
use Rattle.syn_grammar.specs.Tokens.{Span, Delimiter, LitKind, Leaf, ident, literal, Stream, end, leaf, punct, group, plain, and, no, delimiter_number, kind_number, same_text}
use Rattle.syn_grammar.specs.RuleNumbers.{same_rule}
use Rattle.syn_grammar.specs.Shape.{same_shape}
use Rattle.syn_grammar.specs.Grammar.{Syntax, Nothing, Token, Mark, Lifetime, Both, Left, Right, Node, Vanishing, Group, Raw, Rest, Case, Such, Shaped, Captured, Unshown, Added, Impl, Done, Last, More, Order, plain_syntax}

abbrev pub same_bool : Bool → Bool → Bool
same_bool true b = b
same_bool false b = no b

abbrev pub same_delimiter : Delimiter → Delimiter → Bool
same_delimiter d e = nat_eq (delimiter_number d) (delimiter_number e)

abbrev pub same_kind : LitKind → LitKind → Bool
same_kind k l = nat_eq (kind_number k) (kind_number l)

abbrev pub same_leaf : Leaf → Leaf → Bool
same_leaf (ident x) (ident y) = same_text x y
same_leaf (literal k x) (literal l y) = and (same_kind k l) (same_text x y)
same_leaf _ _ = false

-- the same token trees in the same order: texts, kinds of literals, characters, spacing, delimiters and contents
abbrev pub same_stream : Stream → Stream → Bool
same_stream end end = true
same_stream (leaf x sp m) (leaf y sq n) = and (same_leaf x y) (same_stream m n)
same_stream (punct c j sp m) (punct d k sq n) = and (nat_eq c d) (and (same_bool j k) (same_stream m n))
same_stream (group d o c i m) (group e p q j n) = and (same_delimiter d e) (and (same_stream i j) (same_stream m n))
same_stream _ _ = false

-- the same characters
abbrev pub same_mark : List (ℕ × Span) → List (ℕ × Span) → Bool
same_mark [] [] = true
same_mark (x ∷ l) (y ∷ m) = and (nat_eq x.0 y.0) (same_mark l m)
same_mark _ _ = false

-- the same form, and the same tokens in it
abbrev pub same_syntax : Syntax → Syntax → Bool
same_syntax Nothing Nothing = true
same_syntax (Token x sp) (Token y sq) = same_leaf x y
same_syntax (Mark xs) (Mark ys) = same_mark xs ys
same_syntax (Lifetime sp x sq) (Lifetime so y sr) = same_text x y
same_syntax (Both a b) (Both c d) = and (same_syntax a c) (same_syntax b d)
same_syntax (Left a) (Left b) = same_syntax a b
same_syntax (Right a) (Right b) = same_syntax a b
same_syntax (Node a) (Node b) = same_syntax a b
same_syntax (Vanishing j a) (Vanishing k b) = and (same_bool j k) (same_syntax a b)
same_syntax (Group d o c a) (Group e p q b) = and (same_delimiter d e) (same_syntax a b)
same_syntax (Raw d o c i) (Raw e p q j) = and (same_delimiter d e) (same_stream i j)
same_syntax (Rest xs i) (Rest ys j) = and (same_mark xs ys) (same_stream i j)
same_syntax (Case k a) (Case l b) = and (same_rule k l) (same_syntax a b)
same_syntax (Such a) (Such b) = same_syntax a b
same_syntax (Shaped j a) (Shaped k b) = and (same_shape j k) (same_syntax a b)
same_syntax (Captured a i) (Captured b j) = and (same_syntax a b) (same_stream i j)
same_syntax (Unshown a) (Unshown b) = same_syntax a b
same_syntax (Added x) (Added y) = same_text x y
same_syntax (Impl a b) (Impl c d) = and (same_syntax a c) (same_syntax b d)
same_syntax Done Done = true
same_syntax (Last j a) (Last k b) = and (same_bool j k) (same_syntax a b)
same_syntax (More j a sp b) (More k c sq d) = and (same_bool j k) (and (same_syntax a c) (same_syntax b d))
same_syntax (Order xs a ys) (Order zs b ws) = and (same_mark xs zs) (and (same_syntax a b) (same_mark ys ws))
same_syntax _ _ = false

-- two streams pass the test if and only if they are equal with every span 0 to 0
abbrev pub SameStreamsArePlain : Type 0
SameStreamsArePlain = (a b : Stream) → (same_stream a b ≡ true) ↔ (plain a ≡ plain b)

-- and so do two trees
abbrev pub SameTreesArePlain : Type 0
SameTreesArePlain = (s t : Syntax) → (same_syntax s t ≡ true) ↔ (plain_syntax s ≡ plain_syntax t)
