use Rattle.std.proofs.Common.{◌≡◌, sym, subst}
use Rattle.syn_grammar.specs.Tokens as grammar
use Rattle.syn_grammar.specs.Shape.{bracketed}
use Rattle.syn_grammar.specs.Grammar.{Syntax, Node}
use Rattle.syn_grammar.specs.Values.{shape}
use Rattle.syn_grammar.specs.Promises.{OrMemory}
use Rattle.syn_tokens.specs.Kinds.{comma_syntax}
use Rattle.syn_tokens.specs.Listing.{list_of}
use Rattle.syn_parse.specs.Refusals.{IsSyntax}
use Rattle.syn_lower.specs.Parts.{group_syntax}
use Rattle.syn_expr_parse.specs.Arrays.{syntax_of_ArrayContent}
use Rattle.syn_expr_parse.proofs.Groups.{array_shape}
use Rattle.syn_expr_parse.proofs.parsing.groups.array.Goals as goal

pub returns-in-Elements : goal.returns-in-Elements
returns-in-Elements g c =
    let v = λ (e : g.row.N-Trees-Expr.Denot). Node (g.N.Trees.Trees.expr_syntax e) in
    let made = λ (s : Syntax). OrMemory IsSyntax c.expr_array.result (λ e. g.N.Trees.Trees.expr_syntax e.value ≡ s) in
    let elems : Syntax = list_of v comma_syntax c.in-Elements.elems.pairs c.in-Elements.elems.last in
    let array = subst made (sym (array_shape c.args.bracket_token elems)) c.expr_array.ensures in
    subst (λ h. made (shape bracketed (group_syntax grammar.Bracket c.args.bracket_token (syntax_of_ArrayContent v h)))) (sym c.in-Elements.is) array
