-- LISTS WITH SEPARATORS, AS RULES OF THE GRAMMAR.
use Rattle.std.specs.Prelude.{◌≡◌, ℕ, ◌≤◌, Result, Some, None}
use denote.Ref.{MutBor}
use Rattle.syn_grammar.specs.Tokens.{Stream, pick}
use Rattle.syn_grammar.specs.Rules.{Rule}
use Rattle.syn_grammar.specs.Grammar.{Syntax, Nothing, Node, Done}
use Rattle.syn_grammar.specs.Take.{Out, Parser, left}
use Rattle.syn_grammar.specs.Run.{parse_rule, wrap, and_then, branch, last, row_comma, rows}
use Rattle.syn_grammar.specs.Promises.{Computes, Moved}
use Rattle.syn_parse.specs.Form.{Condition, meets, Form, parse}

-- an element, and if a separator is next, that and the others
abbrev pub element_and_others : Rule → Form → Condition → Form → Stream → Out
element_and_others k element next separator ts =
    and_then (parse element ts) (λ r. branch (meets next r) (and_then (parse separator r) (parse_rule k)) (Some (Nothing, r)))

-- the rule is a list of elements, up to a stop that is not consumed; the trailing separator is optional
pub record IsList (k : Rule) (element : Form) (stop next : Condition) (separator : Form) : Type 0 where
  pub is : (ts : Stream) → parse_rule k ts ≡ wrap Node (branch (meets stop ts) (Some (Nothing, ts)) (element_and_others k element next separator ts))

-- the rule is at least one element, and another one as long as a separator is next
pub record IsJoined (k : Rule) (element : Form) (next : Condition) (separator : Form) : Type 0 where
  pub is : (ts : Stream) → parse_rule k ts ≡ wrap Node (element_and_others k element next separator ts)

-- a member of a row, and if a separator is next, that and the others
abbrev pub member_and_others : Condition → Form → Parser → Out → Out
member_and_others next separator others (Some p) = pick (meets next p.1) (row_comma p.0 (parse separator p.1) others) (Some (last p.0, p.1))
member_and_others next separator others None = None

-- the row of these members extends up to a stop that is not consumed; the trailing separator is optional
pub record IsRowOf (member : Form) (stop next : Condition) (separator : Form) : Type 0 where
  pub is : (ts : Stream) → rows (parse member) ts ≡ pick (meets stop ts) (Some (Done, ts)) (member_and_others next separator (rows (parse member)) (parse member ts))

-- A FUNCTION AS AN ARGUMENT: it may be called if so many tokens remain, and it returns what a form derives
pub record Callable {R E T : Type 0} (n : ℕ) (answers : R → Result T E) (pre : MutBor Stream → Type 0) (post : MutBor Stream → R → MutBor Stream → Type 0) : Type 0 where
  pub callable : (old : MutBor Stream) → left old.now ≤ n → pre old
  pub moved : (old new : MutBor Stream) (x : R) → post old x new → Moved old.now (answers x) new.now

pub record Answers {R E T : Type 0} (refusal : E → Type 0) (form : Form) (view : T → Syntax) (answers : R → Result T E) (post : MutBor Stream → R → MutBor Stream → Type 0) : Type 0 where
  pub says : (old new : MutBor Stream) (x : R) → post old x new → Computes refusal view (parse form old.now) (answers x) new.now
