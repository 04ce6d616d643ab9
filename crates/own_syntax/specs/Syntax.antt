-- THE SYNTAX OF ROUTES: their parts, in order.
use Rattle.std.specs.Prelude.{codes, List, Option}
use Rattle.syn_grammar.specs.Tokens.{Bracket}
use Rattle.syn_grammar.specs.Grammar.{Syntax, Both}
use Rattle.syn_tokens.specs.Kinds.{colon_syntax, comma_syntax, if_syntax, Bracket as T_Bracket, Comma}
use Rattle.syn_tokens.specs.Leaves.{maybe, syntax_of_ident, syntax_of_literal, syntax_of_mark, syntax_of_word}
use Rattle.syn_tokens.specs.Listing.{list_of}
use Rattle.syn_tokens.specs.Lists.{Sequence}
use Rattle.syn_lower.specs.Parts.{group_syntax}
use Rattle.syn_lower.specs.Types.{syntax_of_Type}
use Rattle.own_syntax.specs.declared.route.RoutePath.{RoutePath}
use Rattle.own_syntax.specs.declared.route.Parameter.{Parameter}
use Rattle.own_syntax.specs.declared.route.Guard.{Guard}
use Rattle.own_syntax.specs.declared.route.Route.{Route}

abbrev pub syntax_of_RoutePath : RoutePath → Syntax
syntax_of_RoutePath p = syntax_of_literal p.literal

abbrev pub syntax_of_Parameter : Parameter → Syntax
syntax_of_Parameter p = Both (syntax_of_ident p.name) (Both (colon_syntax p.colon_token) (syntax_of_Type p.ty))

abbrev pub syntax_of_Guard : Guard → Syntax
syntax_of_Guard g = Both (if_syntax g.if_token) (syntax_of_ident g.condition)

abbrev pub parameters_syntax : T_Bracket × Sequence Parameter Comma → Syntax
parameters_syntax p = group_syntax Bracket p.0 (list_of syntax_of_Parameter comma_syntax p.1.pairs p.1.last)

abbrev pub syntax_of_Route : Route → Syntax
syntax_of_Route r =
    Both (syntax_of_word (codes "route") r.route_token.span) (Both (syntax_of_ident r.method) (Both (syntax_of_RoutePath r.path)
    (Both (syntax_of_mark (codes "~>") r.leads_to.spans) (Both r.target (Both (parameters_syntax (r.bracket_token, r.parameters)) (maybe syntax_of_Guard r.guard))))))
