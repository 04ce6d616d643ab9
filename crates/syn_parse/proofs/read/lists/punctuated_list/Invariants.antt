use Rattle.std.proofs.Common.{◌≡◌, ◌≤◌, Bool, None}
use Rattle.syn_grammar.specs.Rules.{Rule}
use Rattle.syn_grammar.specs.Grammar.{Syntax, Right}
use Rattle.syn_grammar.specs.Take.{left}
use Rattle.syn_grammar.specs.Run.{parse_rule, rows, wrap}
use Rattle.syn_parse.specs.Form.{Form, parse}
use Rattle.syn_parse.specs.Refusals.{IsSyntax}
use Rattle.syn_tokens.specs.Listing.{onto}
use Rattle.syn_tokens.specs.Ordered.{member_of, ordered_onto}
use Rattle.syn_parse.specs.Listing.{Answers, IsList, IsRowOf}
use Rattle.syn_parse.proofs.read.lists.punctuated_list.Given as goal

abbrev pub invariant-elements : goal.invariant-elements
invariant-elements g l =
    (left l.input ≤ left l.fn.input) × (l.list.last ≡ None)
    × ((k : Rule) (e : Form) (v : g.row.R-Node.Denot → Syntax) → IsList k e g.S.Peek.look g.P.Peek.look g.P.Read.form → Answers IsSyntax e v g.R.Answer.answers (goal.F-post g l.element)
    → parse_rule k l.fn.input ≡ wrap (onto Right v g.P.Syntactic.syntax l.list.pairs) (parse_rule k l.input))
    × ((e : Form) (first : Syntax → Bool) (v : g.row.R-Node.Denot → Syntax) → IsRowOf e g.S.Peek.look g.P.Peek.look g.P.Read.form → Answers IsSyntax e (λ x. member_of first (v x)) g.R.Answer.answers (goal.F-post g l.element)
    → rows (parse e) l.fn.input ≡ wrap (ordered_onto first v g.P.Syntactic.syntax l.list.pairs) (rows (parse e) l.input))

abbrev pub decreases-elements : goal.decreases-elements
decreases-elements g l = left l.input
