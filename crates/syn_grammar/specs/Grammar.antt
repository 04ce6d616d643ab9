-- GRAMMARS AS DATA: the forms of which rules consist, the syntax trees that they read, the print of a tree, and its normal form.
-- `DerivesPrefix` defines what each form reads from a token stream; it has no positions and no order of trials. `print` and `normal` are
-- functions of the tree alone.
use Rattle.std.specs.Prelude.{◌≡◌, ℕ, Bool, true, false, List, [], ◌∷◌, ◌++◌, map, ◌⊎◌, ◌+◌, ◌-◌, ◌*◌, nat_eq, nat_le}
use Rattle.syn_grammar.specs.Words.{Text, keywords, contextual, w_where, w_underscore, colon, comma, less, greater}
use Rattle.syn_grammar.specs.Tokens.{Span, call_site, Delimiter, Brace, LitKind, Str, ByteStr, CStr, Byte, Char, Int, Float, Leaf, ident, literal, Stream, end, leaf, punct, group, ◌⧺◌, plain, or, and, no, pick, same_text, Terminal, Name, Word, Literal, mem, leaf_terminal, Look, Fact, at_name, at_generics, at_mark, ahead, ◌and_also◌, present}
use Rattle.syn_grammar.specs.Rules.{Rule}
use Rattle.syn_grammar.specs.SelfTypes.{self_types}
use Rattle.syn_grammar.specs.RuleNumbers.{same_rule}
use Rattle.syn_grammar.specs.Shape.{Shape}

-- The kinds of one token.
pub data Kind : Type 0 where
  name : Kind  -- an identifier that isn't a keyword
  identifier : Kind  -- any identifier, also a keyword
  word : Text → Kind  -- the identifier of this text: a keyword, or one that is a keyword in some places alone
  name_or : List Text → Kind  -- an identifier that isn't a keyword, or is one of these
  literal_of : List LitKind → Kind  -- a literal of one of these kinds
  index : Kind  -- a field number: decimal digits without a leading zero, at most 2 ^ 32 - 1

-- the possible terminals of a token of this kind
abbrev pub terminals : Kind → List Terminal
terminals name = Name ∷ map Word contextual
terminals identifier = Name ∷ map Word (keywords ++ contextual)
terminals (word x) = Word x ∷ []
terminals (name_or xs) = Name ∷ map Word (contextual ++ xs)
terminals (literal_of ks) = map Literal ks
terminals index = Literal Int ∷ []

abbrev pub any_literal : Kind
any_literal = literal_of (Str ∷ ByteStr ∷ CStr ∷ Byte ∷ Char ∷ Int ∷ Float ∷ [])

abbrev pub is_digit : ℕ → Bool
is_digit c = and (nat_le 48 c) (nat_le c 57)

abbrev pub all_digits : Text → Bool
all_digits [] = true
all_digits (c ∷ l) = and (is_digit c) (all_digits l)

-- the number that these digits write, appended to this one
abbrev pub number_after : ℕ → Text → ℕ
number_after n [] = n
number_after n (c ∷ l) = number_after (n * 10 + (c - 48)) l

-- no leading zero, except in `0`
abbrev pub leads_well : Text → Bool
leads_well [] = false
leads_well (c ∷ []) = true
leads_well (c ∷ d ∷ l) = no (nat_eq c 48)

-- decimal digits, no leading zero, at most 2 ^ 32 - 1
abbrev pub is_index : Text → Bool
is_index x = and (all_digits x) (and (leads_well x) (nat_le (number_after 0 x) 4294967295))

-- a further condition on the text
abbrev pub suits : Kind → Leaf → Bool
suits index (literal k x) = is_index x
suits _ x = true

abbrev pub fits : Kind → Leaf → Bool
fits k x = and (suits k x) (mem (leaf_terminal x) (terminals k))

-- Conditions on a syntax tree that no lookahead can decide.
pub data Test : Type 0 where
  trailing_brace no_trailing_brace : Test  -- the tree ends with a group in braces; it doesn't
  has has_no : Rule → Test  -- some part of it, in groups too, is of this rule by a union's choice; none is
  one_where : Test  -- it contains the word `where` at most once, not counting groups

-- The forms of which rules consist.
pub data Grammar : Type 0 where
  empty : Grammar  -- reads nothing
  token : List Fact → Kind → Grammar  -- one token of this kind; other forms may test these facts of its lookahead, and no others
  mark : Bool → Text → Grammar  -- a mark of one or more characters, all but the last Joint (true: other forms may test facts of its lookahead)
  lifetime : Grammar  -- a lifetime: `'`, Joint, directly before an identifier of any text
  ◌&◌ : Grammar → Grammar → Grammar  -- a sequence: one form and then the other
  when◌then◌else◌ : Look → Grammar → Grammar → Grammar  -- a choice by lookahead: the first form if the look holds of the next token, else the second
  vanishing : Bool → Look → Grammar → Grammar  -- an optional part, present if the look holds; never printed (true), or not printed if its list is empty (false)
  inside : Delimiter → Grammar → Grammar  -- a group with this delimiter, whose whole content the form reads
  raw : Delimiter → Grammar  -- a group with this delimiter and any content, stored verbatim, spacing too
  rest_after : Text → Grammar  -- a mark, then all the rest of the group or stream, stored verbatim: at least one token tree
  either : Grammar → Grammar → Grammar  -- the union of two forms, with no order: no stream is read by both
  one_of : List Rule → Grammar  -- the union of these rules, with no order: no stream is read by two of them
  rule : Rule → Grammar  -- what this rule reads
  such : Test → Grammar → Grammar  -- a form whose tree must pass this test
  shaped : Shape → Grammar → Grammar  -- a form whose value is built in this way (it reads, prints and compares as the form itself)
  captured : Grammar → Grammar  -- a form that is stored as exactly the tokens that it reads, spacing too
  unshown : Grammar  -- a part that is never printed: it reads nothing, and a tree built by hand may have anything there
  supplied : Fact → Grammar → Grammar → Grammar  -- a form, `:` and a second form; if a name is next and its lookahead has this fact, the second form alone, with `_` and `:` added to the tree
  generics_before : Grammar → Grammar → Grammar → Grammar  -- if generics are next, a list in `< >` of the first two forms; then the third form; printed with `< >` if the third would be parsed as generics
  row : Grammar → Grammar → Grammar  -- a comma list of these two forms, up to `>`; a trailing comma is allowed
  ordered : Grammar → Grammar → Grammar  -- such a list in `< >`; the members of the first form are printed first

infixr 40 ◌&◌
infixr 35 when◌then◌else◌
-- Syntax trees: the tokens that were read, with spans. One type represents the trees of all rules.
pub data Syntax : Type 0 where
  Nothing : Syntax
  Token : Leaf → Span → Syntax
  Mark : List (ℕ × Span) → Syntax  -- a mark's characters
  Lifetime : Span → Text → Span → Syntax
  Both : Syntax → Syntax → Syntax  -- of a sequence
  Left Right : Syntax → Syntax  -- of a choice or of a union of two forms: by the first form, by the second
  Node : Syntax → Syntax  -- of a rule
  Vanishing : Bool → Syntax → Syntax
  Group : Delimiter → Span → Span → Syntax → Syntax  -- a group, with the spans of its delimiters
  Raw : Delimiter → Span → Span → Stream → Syntax
  Rest : List (ℕ × Span) → Stream → Syntax
  Case : Rule → Syntax → Syntax  -- of a union of rules: by this rule
  Such : Syntax → Syntax
  Shaped : Shape → Syntax → Syntax
  Captured : Syntax → Stream → Syntax  -- the tree of its reading, and its tokens
  Unshown : Syntax → Syntax  -- a part that is never printed
  Added : Text → Syntax  -- a mark that is printed, with span 0 to 0, though nothing was read (only in trees built by hand)
  Impl : Syntax → Syntax → Syntax  -- optional generics, and the part after them
  Done : Syntax  -- the end of a list: after a comma, or of an empty list
  Last : Bool → Syntax → Syntax  -- a list's last member, without a comma (true: of the first form)
  More : Bool → Syntax → Span → Syntax → Syntax  -- a member with its comma, and the others
  Order : List (ℕ × Span) → Syntax → List (ℕ × Span) → Syntax  -- `<`, a list, and `>`

abbrev pub chars : List (ℕ × Span) → Text
chars [] = []
chars (x ∷ l) = x.0 ∷ chars l

-- a mark is at the front, followed by r: all but its last character are Joint
abbrev pub Spelled : List (ℕ × Span) → Stream → Stream → Type 0
Spelled [] ts r = ⊥
Spelled (x ∷ []) ts r = (j : Bool) × (ts ≡ punct x.0 j x.1 r)
Spelled (x ∷ y ∷ l) ts r = (m : Stream) × (ts ≡ punct x.0 true x.1 m) × Spelled (y ∷ l) m r

-- a mark as it is printed, followed by r
abbrev pub spell : List (ℕ × Span) → Stream → Stream
spell [] r = r
spell (x ∷ []) r = punct x.0 false x.1 r
spell (x ∷ y ∷ l) r = punct x.0 true x.1 (spell (y ∷ l) r)

-- there is a token tree
abbrev pub some_tree : Stream → Bool
some_tree end = false
some_tree _ = true

-- nothing was read
abbrev pub vacant : Syntax → Bool
vacant Nothing = true
vacant (Both s t) = and (vacant s) (vacant t)
vacant (Left s) = vacant s
vacant (Right s) = vacant s
vacant (Node s) = vacant s
vacant (Case k s) = vacant s
vacant (Such s) = vacant s
vacant (Shaped j s) = vacant s
vacant (Unshown s) = true
vacant _ = false

-- the part ends with a group in braces
abbrev pub ends_brace : Syntax → Bool
ends_brace (Both s t) = pick (vacant t) (ends_brace s) (ends_brace t)
ends_brace (Left s) = ends_brace s
ends_brace (Right s) = ends_brace s
ends_brace (Node s) = ends_brace s
ends_brace (Case k s) = ends_brace s
ends_brace (Such s) = ends_brace s
ends_brace (Shaped j s) = ends_brace s
ends_brace (Group Brace o c s) = true
ends_brace (Raw Brace o c i) = true
ends_brace _ = false

-- the token is the word `where`
abbrev pub bare_leaf : Leaf → Bool
bare_leaf (ident x) = same_text x w_where
bare_leaf (literal k x) = false

-- some part of it is of this rule, by a union's choice; optional parts and rows are not searched
abbrev pub has_part : Rule → Syntax → Bool
has_part k (Both s t) = or (has_part k s) (has_part k t)
has_part k (Left s) = has_part k s
has_part k (Right s) = has_part k s
has_part k (Node s) = has_part k s
has_part k (Group d o c s) = has_part k s
has_part k (Case l s) = or (same_rule k l) (has_part k s)
has_part k (Such s) = has_part k s
has_part k _ = false

-- the tree doesn't contain the word `where`; contains it at most once: groups, rows and parts that are never printed don't count
abbrev pub no_where : Syntax → Bool
no_where (Token x sp) = no (bare_leaf x)
no_where (Both s t) = and (no_where s) (no_where t)
no_where (Left s) = no_where s
no_where (Right s) = no_where s
no_where (Node s) = no_where s
no_where (Vanishing b s) = or b (no_where s)
no_where (Case k s) = no_where s
no_where (Such s) = no_where s
no_where _ = true

abbrev pub at_most_one_where : Syntax → Bool
at_most_one_where (Both s t) = or (and (no_where s) (at_most_one_where t)) (and (at_most_one_where s) (no_where t))
at_most_one_where (Left s) = at_most_one_where s
at_most_one_where (Right s) = at_most_one_where s
at_most_one_where (Node s) = at_most_one_where s
at_most_one_where (Vanishing b s) = or b (at_most_one_where s)
at_most_one_where (Case k s) = at_most_one_where s
at_most_one_where (Such s) = at_most_one_where s
at_most_one_where _ = true

abbrev pub holds : Test → Syntax → Bool
holds trailing_brace s = ends_brace s
holds no_trailing_brace s = no (ends_brace s)
holds (has k) s = has_part k s
holds (has_no k) s = no (has_part k s)
holds one_where s = at_most_one_where s

abbrev pub choose : Bool → Grammar → Grammar → Grammar
choose true g h = g
choose false g h = h

abbrev pub among : Rule → List Rule → Bool
among k [] = false
among k (l ∷ ks) = or (same_rule k l) (among k ks)

abbrev pub at_row_end : Look
at_row_end = at_mark greater

abbrev pub at_row_comma : Look
at_row_comma = at_mark comma

-- a name is next, and its lookahead has this fact
abbrev pub at_unnamed : Fact → Look
at_unnamed n = at_name and_also ahead n

-- the characters of a text as a mark, each at this span
abbrev pub written : Text → Span → List (ℕ × Span)
written [] sp = []
written (c ∷ l) sp = (c, sp) ∷ written l sp

abbrev pub underscore : Span → Stream
underscore sp = leaf (ident w_underscore) sp end

abbrev pub opt_generics : Grammar → Grammar → Grammar
opt_generics x y = when at_generics then ordered x y else empty

-- WHAT A FORM READS: from the stream ts it reads this tree and leaves r. By recursion on the tree.
abbrev pub DerivesPrefix : (Rule → Grammar) → Grammar → Syntax → Stream → Stream → Type 0
DerivesPrefix table empty Nothing ts r = ts ≡ r
DerivesPrefix table (token b k) (Token x sp) ts r = (fits k x ≡ true) × (ts ≡ leaf x sp r)
DerivesPrefix table (mark b cs) (Mark xs) ts r = (chars xs ≡ cs) × Spelled xs ts r
DerivesPrefix table lifetime (Lifetime sp x sq) ts r = ts ≡ punct 39 true sp (leaf (ident x) sq r)
DerivesPrefix table (g & h) (Both s t) ts r = (m : Stream) × DerivesPrefix table g s ts m × DerivesPrefix table h t m r
DerivesPrefix table (when c then g else h) (Left s) ts r = (present c ts ≡ true) × DerivesPrefix table g s ts r
DerivesPrefix table (when c then g else h) (Right s) ts r = (present c ts ≡ false) × DerivesPrefix table h s ts r
DerivesPrefix table (vanishing b c g) (Vanishing b' s) ts r = (b ≡ b') × DerivesPrefix table (when c then g else empty) s ts r
DerivesPrefix table (inside d g) (Group d' o c s) ts r = (d ≡ d') × (content : Stream) × (ts ≡ group d' o c content r) × DerivesPrefix table g s content end
DerivesPrefix table (raw d) (Raw d' o c content) ts r = (d ≡ d') × (ts ≡ group d' o c content r)
DerivesPrefix table (rest_after cs) (Rest xs content) ts r = (chars xs ≡ cs) × Spelled xs ts content × (some_tree content ≡ true) × (r ≡ end)
DerivesPrefix table (either g h) (Left s) ts r = DerivesPrefix table g s ts r
DerivesPrefix table (either g h) (Right s) ts r = DerivesPrefix table h s ts r
DerivesPrefix table (one_of ks) (Case k s) ts r = (among k ks ≡ true) × DerivesPrefix table (table k) s ts r
DerivesPrefix table (rule k) (Node s) ts r = DerivesPrefix table (table k) s ts r
DerivesPrefix table (such q g) (Such s) ts r = (holds q s ≡ true) × DerivesPrefix table g s ts r
DerivesPrefix table (shaped j g) (Shaped j' s) ts r = (j ≡ j') × DerivesPrefix table g s ts r
DerivesPrefix table (captured g) (Captured s content) ts r = (ts ≡ content ⧺ r) × DerivesPrefix table g s ts r
DerivesPrefix table unshown (Unshown s) ts r = (s ≡ Nothing) × (ts ≡ r)
DerivesPrefix table (supplied n p t) (Both a (Both (Mark xs) s)) ts r =
    ((present (at_unnamed n) ts ≡ true) × (x : Leaf) × (sp : Span) × (c : Stream) × (ts ≡ leaf x sp (c ⧺ r)) × DerivesPrefix table p a (underscore sp) end × (xs ≡ written colon sp) × DerivesPrefix table t s ts r)
    ⊎ ((present (at_unnamed n) ts ≡ false) × (m : Stream) × DerivesPrefix table p a ts m × (chars xs ≡ colon) × (m' : Stream) × Spelled xs m m' × DerivesPrefix table t s m' r)
DerivesPrefix table (generics_before x y h) (Impl l s) ts r = (m : Stream) × DerivesPrefix table (opt_generics x y) l ts m × DerivesPrefix table h s m r
DerivesPrefix table (row g h) Done ts r = (present at_row_end ts ≡ true) × (ts ≡ r)
DerivesPrefix table (row g h) (Last k s) ts r = (present at_row_end ts ≡ false) × DerivesPrefix table (choose k g h) s ts r × (present at_row_comma r ≡ false)
DerivesPrefix table (row g h) (More k s sp t) ts r = (present at_row_end ts ≡ false) × (m : Stream) × DerivesPrefix table (choose k g h) s ts m
    × (m' : Stream) × Spelled ((44, sp) ∷ []) m m' × DerivesPrefix table (row g h) t m' r
DerivesPrefix table (ordered g h) (Order xs l ys) ts r = (m : Stream) × (chars xs ≡ less) × Spelled xs ts m
    × (m' : Stream) × DerivesPrefix table (row g h) l m m' × (chars ys ≡ greater) × Spelled ys m' r
DerivesPrefix table _ _ ts r = ⊥

-- THE PRINT OF A TREE

-- the tree has no list element: only a colon, the word `where`, and empty lists
abbrev pub bare : Syntax → Bool
bare Nothing = true
bare (Token x sp) = bare_leaf x
bare (Mark xs) = same_text (chars xs) colon
bare (Lifetime sp x sq) = false
bare (Both s t) = and (bare s) (bare t)
bare (Left s) = bare s
bare (Right s) = bare s
bare (Node s) = bare s
bare (Vanishing b s) = or b (bare s)
bare (Group d o c s) = false
bare (Raw d o c i) = false
bare (Rest xs i) = false
bare (Case k s) = bare s
bare (Such s) = bare s
bare (Shaped j s) = false
bare (Captured s i) = false
bare (Unshown s) = true
bare (Added cs) = same_text cs colon
bare (Impl l s) = false
bare Done = true
bare (Last k s) = false
bare (More k s sp t) = false
bare (Order xs l ys) = bare l

abbrev pub added : Text → List (ℕ × Span)
added [] = []
added (c ∷ l) = (c, call_site) ∷ added l

-- the tokens of a tree, in the tree's order
abbrev pub show : Syntax → Stream
show Nothing = end
show (Token x sp) = leaf x sp end
show (Mark xs) = spell xs end
show (Lifetime sp x sq) = punct 39 true sp (leaf (ident x) sq end)
show (Both s t) = show s ⧺ show t
show (Left s) = show s
show (Right s) = show s
show (Node s) = show s
show (Vanishing b s) = show s
show (Group d o c s) = group d o c (show s) end
show (Raw d o c i) = group d o c i end
show (Rest xs i) = spell xs i
show (Case k s) = show s
show (Such s) = show s
show (Shaped j s) = show s
show (Captured s i) = i
show (Unshown s) = end
show (Added cs) = spell (added cs) end
show (Impl l s) = show l ⧺ show s
show Done = end
show (Last k s) = show s
show (More k s sp t) = show s ⧺ punct 44 false sp (show t)
show (Order xs l ys) = spell xs (show l ⧺ spell ys end)

-- puts a member of the second form after all members of the first; a member that is no longer the last gets a comma
abbrev pub following : Syntax → Span → Syntax → Syntax
following s sp (More true x q u) = More true x q (following s sp u)
following s sp (Last true x) = More true x call_site (More false s sp Done)
following s sp t = More false s sp t

abbrev pub sort : Syntax → Syntax
sort (More true s sp t) = More true s sp (sort t)
sort (More false s sp t) = following s sp (sort t)
sort s = s

-- `< >`
abbrev pub no_generics : Syntax
no_generics = Left (Order (written less call_site) Done (written greater call_site))

-- some part that was read as a self type would be parsed as generics in the print; groups and lists are not searched
abbrev pub led_part : Syntax → Bool
led_part (Both s t) = or (led_part s) (led_part t)
led_part (Left s) = led_part s
led_part (Right s) = led_part s
led_part (Node s) = led_part s
led_part (Case k s) = or (and (among k self_types) (present at_generics (show s))) (led_part s)
led_part (Such s) = led_part s
led_part _ = false

-- of the part after an impl's generics: it would be parsed as generics, or its self type after `for` would
abbrev pub led : Syntax → Bool
led s = or (present at_generics (show s)) (led_part s)

-- the tree that is printed: without optional parts whose list is empty, and with the members of the first form first in ordered lists
abbrev pub renew : Syntax → Syntax
renew (Both s t) = Both (renew s) (renew t)
renew (Left s) = Left (renew s)
renew (Right s) = Right (renew s)
renew (Node s) = Node (renew s)
renew (Vanishing b s) = Vanishing b (pick (or b (bare s)) (Right Nothing) (renew s))
renew (Group d o c s) = Group d o c (renew s)
renew (Case k s) = Case k (renew s)
renew (Such s) = Such (renew s)
renew (Shaped j s) = Shaped j (renew s)
renew (Last k s) = Last k (renew s)
renew (More k s sp t) = More k (renew s) sp (renew t)
renew (Order xs l ys) = Order xs (sort (renew l)) ys
renew (Impl l s) = Impl (pick (bare l) (pick (led (renew s)) no_generics (Right Nothing)) (renew l)) (renew s)
renew Nothing = Nothing
renew (Token x sp) = Token x sp
renew (Mark xs) = Mark xs
renew (Lifetime sp x sq) = Lifetime sp x sq
renew (Raw d o c i) = Raw d o c i
renew (Rest xs i) = Rest xs i
renew (Captured s i) = Captured s i
renew (Unshown s) = Unshown (renew s)
renew (Added cs) = Added cs
renew Done = Done

-- the print of a tree
abbrev pub print : Syntax → Stream
print s = show (renew s)

abbrev pub plain_mark : List (ℕ × Span) → List (ℕ × Span)
plain_mark [] = []
plain_mark (x ∷ l) = (x.0, call_site) ∷ plain_mark l

-- the same tree with every span 0 to 0
abbrev pub plain_syntax : Syntax → Syntax
plain_syntax Nothing = Nothing
plain_syntax (Token x sp) = Token x call_site
plain_syntax (Mark xs) = Mark (plain_mark xs)
plain_syntax (Lifetime sp x sq) = Lifetime call_site x call_site
plain_syntax (Both s t) = Both (plain_syntax s) (plain_syntax t)
plain_syntax (Left s) = Left (plain_syntax s)
plain_syntax (Right s) = Right (plain_syntax s)
plain_syntax (Node s) = Node (plain_syntax s)
plain_syntax (Vanishing b s) = Vanishing b (plain_syntax s)
plain_syntax (Group d o c s) = Group d call_site call_site (plain_syntax s)
plain_syntax (Raw d o c i) = Raw d call_site call_site (plain i)
plain_syntax (Rest xs i) = Rest (plain_mark xs) (plain i)
plain_syntax (Case k s) = Case k (plain_syntax s)
plain_syntax (Such s) = Such (plain_syntax s)
plain_syntax (Shaped j s) = Shaped j (plain_syntax s)
plain_syntax (Captured s i) = Captured (plain_syntax s) (plain i)
plain_syntax (Unshown s) = Unshown (plain_syntax s)
plain_syntax (Added cs) = Added cs
plain_syntax (Impl l s) = Impl (plain_syntax l) (plain_syntax s)
plain_syntax Done = Done
plain_syntax (Last k s) = Last k (plain_syntax s)
plain_syntax (More k s sp t) = More k (plain_syntax s) call_site (plain_syntax t)
plain_syntax (Order xs l ys) = Order (plain_mark xs) (plain_syntax l) (plain_mark ys)

-- THE NORMAL FORM of a tree: the printed tree, with every span 0 to 0
abbrev pub normal : Syntax → Syntax
normal s = plain_syntax (renew s)
