-- THE COMPUTED READING: functions that compute the value and the rest that a rule reads from a token stream, or none.
-- `parse_rule k` is the function of a rule, `parse_form g` that of a form; by specs/Computed.antt they compute exactly what the grammar derives.
-- A result (`Out`) is the value (`value_of` below) and the rest of the stream, or none.
use Rattle.std.specs.Prelude.{ℕ, zero, suc, ◌+◌, ◌*◌, Bool, true, false, List, [], ◌∷◌, Option, Some, None}
use Rattle.syn_grammar.specs.Words.{colon, comma, less, greater}
use Rattle.syn_grammar.specs.Tokens.{Span, call_site, Delimiter, Stream, end, no, pick, at_generics}
use Rattle.syn_grammar.specs.Rules.{Rule}
use Rattle.syn_grammar.specs.Grammar.{Test, holds, Grammar, empty, token, mark, lifetime, ◌&◌, when◌then◌else◌, vanishing, inside, raw, rest_after, either, one_of, rule, such, captured, unshown, supplied, row, ordered, at_unnamed, underscore, Unshown, Syntax, Nothing, Mark, Both, Left, Right, Node, Vanishing, Group, Raw, Rest, Case, Such, Captured, Done, Last, More, Order, at_row_end, at_row_comma, Shaped, shaped, Impl, generics_before}
use Rattle.syn_grammar.specs.Values.{shape}
use Rattle.syn_grammar.specs.Table.{table}
use Rattle.syn_grammar.specs.Take.{Out, Parser, only, left, is_end, sees, take_token, take_lifetime, take_mark, Opened, take_group, before, first_span}

-- a result with a function applied to its tree
abbrev pub wrap : (Syntax → Syntax) → Out → Out
wrap f (Some p) = Some (f p.0, p.1)
wrap f None = None

-- a sequence: the result of its first form, then the second form
abbrev pub and_then : Out → Parser → Out
and_then (Some p) q = wrap (Both p.0) (q p.1)
and_then None q = None

-- a choice: whether its look holds, and the results of both forms
abbrev pub branch : Bool → Out → Out → Out
branch true p q = wrap Left p
branch false p q = wrap Right q

-- an optional part; if it is never printed (true), its content is dropped
abbrev pub vanish : Bool → Out → Out
vanish b (Some p) = Some (Vanishing b (pick b (Right Nothing) p.0), p.1)
vanish b None = None

-- a group, from the result of its content, which must have no rest
abbrev pub close : Delimiter → Opened → Out → Out
close d g (Some p) = only (is_end p.1) (Some (Group d g.opening g.closing p.0, g.rest))
close d g None = None

-- a group, if one was opened, and the parser of its content
abbrev pub within : Delimiter → Option Opened → Parser → Out
within d (Some g) p = close d g (p g.content)
within d None p = None

-- a group of any content
abbrev pub raw_of : Delimiter → Option Opened → Out
raw_of d (Some g) = Some (Raw d g.opening g.closing g.content, g.rest)
raw_of d None = None

-- a mark's characters
abbrev pub marks_of : Syntax → List (ℕ × Span)
marks_of (Mark xs) = xs
marks_of _ = []

-- a mark, and all tokens after it
abbrev pub rest_of : Out → Out
rest_of (Some p) = only (no (is_end p.1)) (Some (Rest (marks_of p.0) p.1, end))
rest_of None = None

-- a union, from the results of its two forms
abbrev pub first_of : Out → Out → Out
first_of (Some p) q = Some (Left p.0, p.1)
first_of None q = wrap Right q

-- the parser of the union of two forms
abbrev pub union : Parser → Parser → Parser
union p q ts = first_of (p ts) (q ts)

-- a rule's tree without its Node
abbrev pub unwrapped : Syntax → Syntax
unwrapped (Node s) = s
unwrapped s = s

-- the result of a rule, with the rule's name; if there is none, the result of the other rules
abbrev pub named : Rule → Out → Out → Out
named k (Some p) o = Some (Case k (unwrapped p.0), p.1)
named k None o = o

-- a union of rules
abbrev pub first_rule : (Rule → Parser) → List Rule → Parser
first_rule P [] ts = None
first_rule P (k ∷ ks) ts = named k (P k ts) (first_rule P ks ts)

-- a result whose tree passes the test
abbrev pub such_as : Test → Out → Out
such_as q (Some p) = only (holds q p.0) (Some (Such p.0, p.1))
such_as q None = None

-- stores the tokens that were read
abbrev pub caught : Stream → Out → Out
caught ts (Some p) = Some (Captured Nothing (before ts p.1), p.1)
caught ts None = None

-- adds a name and its colon before a type, with the span of the type's first token
abbrev pub name_supplied : Syntax → Stream → Span → Out → Out
name_supplied s r sp (Some z) = only (is_end z.1) (Some (Both z.0 (Both (Mark ((58, sp) ∷ [])) s), r))
name_supplied s r sp None = None

-- the same, if there is a first token
abbrev pub supplied_at : Syntax → Stream → Option Span → Parser → Out
supplied_at s r (Some sp) p = name_supplied s r sp (p (underscore sp))
supplied_at s r None p = None

-- the same, from the result of the type alone
abbrev pub supplied_to : Stream → Out → Parser → Out
supplied_to ts (Some y) p = supplied_at y.0 y.1 (first_span ts y.1) p
supplied_to ts None p = None

-- if the type is alone (true), that; else a name, a colon and the type
abbrev pub named_or_not : Bool → Parser → Parser → Parser
named_or_not true p t ts = supplied_to ts (t ts) p
named_or_not false p t ts = and_then (p ts) (λ m. and_then (take_mark colon m) t)

-- A COMMA LIST UP TO `>`, whose members have one parser

-- the last member
abbrev pub last : Syntax → Syntax
last (Left s) = Last true s
last (Right s) = Last false s
last s = s

-- a member, its comma and the members after it
abbrev pub more : Syntax → Span → Syntax → Syntax
more (Left s) sp t = More true s sp t
more (Right s) sp t = More false s sp t
more s sp t = s

-- the span of a mark of one character
abbrev pub span_of : Syntax → Span
span_of (Mark ((c, sp) ∷ [])) = sp
span_of _ = call_site

-- after a comma, the other members
abbrev pub row_comma : Syntax → Out → Parser → Out
row_comma s (Some c) others = wrap (more s (span_of c.0)) (others c.1)
row_comma s None others = None

-- after a member, depending on whether a comma is next
abbrev pub row_after : Bool → Syntax → Stream → Parser → Out
row_after true s r others = row_comma s (take_mark comma r) others
row_after false s r others = Some (last s, r)

-- the first member, then the others
abbrev pub row_member : Out → Parser → Out
row_member (Some p) others = row_after (sees at_row_comma p.1) p.0 p.1 others
row_member None others = None

-- depending on whether the row ends here
abbrev pub row_from : Bool → Parser → Parser → Parser
row_from true p others ts = Some (Done, ts)
row_from false p others ts = row_member (p ts) others

-- one step: the end of the row, or a member and the others
abbrev pub row_step : Parser → Parser → Parser
row_step p others ts = row_from (sees at_row_end ts) p others ts

-- at most so many steps
unfoldable pub rows_for : ℕ → Parser → Parser
rows_for zero p ts = None
rows_for (suc n) p ts = row_step p (rows_for n p) ts

unfoldable pub rows : Parser → Parser
rows p ts = rows_for (suc (left ts)) p ts

-- the list, and the `>` after it
abbrev pub close_row : Syntax → Syntax → Out → Out
close_row x l (Some y) = Some (Order (marks_of x) l (marks_of y.0), y.1)
close_row x l None = None

-- the list after `<`, and `>`
abbrev pub row_closed : Syntax → Out → Out
row_closed x (Some l) = close_row x l.0 (take_mark greater l.1)
row_closed x None = None

-- `<`, and the list after it
abbrev pub row_opened : Out → Parser → Out
row_opened (Some x) l = row_closed x.0 (l x.1)
row_opened None l = None

-- such a list if generics are next, or nothing
abbrev pub generics : Parser → Parser
generics l ts = branch (sees at_generics ts) (row_opened (take_mark less ts) l) (Some (Nothing, ts))

-- optional generics, then the part after them
abbrev pub and_impl : Out → Parser → Out
and_impl (Some p) q = wrap (Impl p.0) (q p.1)
and_impl None q = None

-- WHAT A FORM READS, given the parsers of the rules
abbrev pub runs : (Rule → Parser) → Grammar → Parser
runs P empty = λ ts. Some (Nothing, ts)
runs P (token b k) = take_token k
runs P (mark b cs) = take_mark cs
runs P lifetime = take_lifetime
runs P (g & h) = λ ts. and_then (runs P g ts) (runs P h)
runs P (when c then g else h) = λ ts. branch (sees c ts) (runs P g ts) (runs P h ts)
runs P (vanishing b c g) = λ ts. vanish b (branch (sees c ts) (runs P g ts) (Some (Nothing, ts)))
runs P (inside d g) = λ ts. within d (take_group d ts) (runs P g)
runs P (raw d) = λ ts. raw_of d (take_group d ts)
runs P (rest_after cs) = λ ts. rest_of (take_mark cs ts)
runs P (either g h) = union (runs P g) (runs P h)
runs P (one_of ks) = first_rule P ks
runs P (rule k) = P k
runs P (such q g) = λ ts. such_as q (runs P g ts)
runs P (shaped j g) = λ ts. wrap (shape j) (runs P g ts)
runs P (generics_before x y h) = λ ts. and_impl (generics (rows (union (runs P x) (runs P y))) ts) (runs P h)
runs P unshown = λ ts. Some (Unshown Nothing, ts)
runs P (supplied n p t) = λ ts. named_or_not (sees (at_unnamed n) ts) (runs P p) (runs P t) ts
runs P (captured g) = λ ts. caught ts (runs P g ts)
runs P (row g h) = rows (union (runs P g) (runs P h))
runs P (ordered g h) = λ ts. row_opened (take_mark less ts) (rows (union (runs P g) (runs P h)))

-- what a rule reads, with at most this depth of nested rules
unfoldable pub run : ℕ → Rule → Parser
run zero k ts = None
run (suc n) k ts = wrap Node (runs (run n) (table k) ts)

-- what a rule reads
unfoldable pub parse_rule : Rule → Parser
parse_rule k ts = run (suc (left ts * 256 + 255)) k ts

-- what a form reads
abbrev pub parse_form : Grammar → Parser
parse_form g = runs parse_rule g

-- WHAT A RUST VALUE STORES OF A TREE: it drops the reading of captured tokens, and parts that are never printed; shapes build expressions and statements
abbrev pub value_of : Syntax → Syntax
value_of (Both s t) = Both (value_of s) (value_of t)
value_of (Left s) = Left (value_of s)
value_of (Right s) = Right (value_of s)
value_of (Node s) = Node (value_of s)
value_of (Vanishing b s) = Vanishing b (pick b (Right Nothing) (value_of s))
value_of (Group d o c s) = Group d o c (value_of s)
value_of (Case k s) = Case k (value_of s)
value_of (Such s) = Such (value_of s)
value_of (Shaped j s) = shape j (value_of s)
value_of (Impl l s) = Impl (value_of l) (value_of s)
value_of (Unshown s) = Unshown (value_of s)
value_of (Captured s i) = Captured Nothing i
value_of (Last k s) = Last k (value_of s)
value_of (More k s sp t) = More k (value_of s) sp (value_of t)
value_of (Order xs l ys) = Order xs (value_of l) ys
value_of s = s
