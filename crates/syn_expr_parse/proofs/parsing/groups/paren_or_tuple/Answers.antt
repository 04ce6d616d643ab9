use Rattle.std.proofs.Common.{◌≡◌, sym, subst}
use Rattle.syn_grammar.specs.Tokens as grammar
use Rattle.syn_grammar.specs.Shape.{Tuple}
use Rattle.syn_grammar.specs.Grammar.{Syntax, Node}
use Rattle.syn_grammar.specs.Values.{new}
use Rattle.syn_grammar.specs.Promises.{OrMemory}
use Rattle.syn_tokens.specs.Kinds.{comma_syntax}
use Rattle.syn_tokens.specs.Listing.{list_of}
use Rattle.syn_parse.specs.Refusals.{IsSyntax}
use Rattle.syn_lower.specs.Parts.{group_syntax}
use Rattle.syn_lower.specs.Types.{tuple_elements}
use Rattle.syn_expr_parse.proofs.Groups.{tuple_shape}
use Rattle.syn_expr_parse.proofs.parsing.groups.paren_or_tuple.Goals as goal

pub returns-in-Err : goal.returns-in-Err
returns-in-Err g c =
    let v = λ (e : g.row.N-Trees-Expr.Denot). Node (g.N.Trees.Trees.expr_syntax e) in
    let made = λ (s : Syntax). OrMemory IsSyntax c.tuple.result (λ e. g.N.Trees.Trees.expr_syntax e.value ≡ s) in
    let all = c.args.elems in
    let tuple = subst (λ l. made (new Tuple (group_syntax grammar.Paren c.args.paren_token (tuple_elements (list_of v comma_syntax l.pairs l.last))))) c.in-Err.ensures.other c.tuple.ensures in
    subst made (sym (tuple_shape v _ _ all.pairs all.last c.in-Err.ensures.missed)) tuple
