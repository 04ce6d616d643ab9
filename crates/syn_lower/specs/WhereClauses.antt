-- THE SYNTAX OF WHERE CLAUSES, one level at a time, every field.
use Rattle.std.specs.Prelude.{Bool, true, false}
use Rattle.syn_grammar.specs.Words.{w_where}
use Rattle.syn_grammar.specs.Rules.{predicates}
use Rattle.syn_grammar.specs.Grammar.{Syntax, Both, Left, Right, Node, Vanishing, Grammar, ◌&◌, rule, word}
use Rattle.syn_grammar.specs.Forms.{plainly}
use Rattle.syn_grammar.specs.Take.{Parser}
use Rattle.syn_grammar.specs.Run.{parse_form, wrap}
use Rattle.syn_grammar.specs.Promises.{itself}
use Rattle.syn_tokens.specs.Kinds.{colon_syntax, comma_syntax, plus_syntax, where_syntax}
use Rattle.syn_tokens.specs.Leaves.{maybe}
use Rattle.syn_tokens.specs.Listing.{list_of}
use Rattle.syn_lower.specs.Bounds.{solid, syntax_of_TypeParamBound, turned}
use Rattle.syn_lower.specs.Types.{syntax_of_Type, syntax_of_lifetime}
use Rattle.syn_lower.specs.declared.where_clause.PredicateLifetime.TheInside as PredicateLifetime-in
use Rattle.syn_lower.specs.declared.where_clause.PredicateType.TheInside as PredicateType-in
use Rattle.syn_lower.specs.declared.where_clause.WherePredicate.TheVariants as WherePredicate-m
use Rattle.syn_lower.specs.declared.where_clause.WhereClause.TheInside as WhereClause-in

abbrev pub view_PredicateLifetime : PredicateLifetime-in.Inside → Syntax
view_PredicateLifetime a = Both (syntax_of_lifetime a.lifetime) (Both (colon_syntax a.colon_token) (turned (list_of syntax_of_lifetime plus_syntax a.bounds.pairs a.bounds.last)))

abbrev pub view_PredicateType : PredicateType-in.Inside → Syntax
view_PredicateType a =
    Both (maybe itself a.lifetimes) (Both (syntax_of_Type a.bounded_ty) (Both (colon_syntax a.colon_token) (list_of syntax_of_TypeParamBound plus_syntax a.bounds.pairs a.bounds.last)))

abbrev pub syntax_of_WherePredicate : WherePredicate-m.the_data → Syntax
syntax_of_WherePredicate (WherePredicate-m.Lifetime p) = Node (Left p)
syntax_of_WherePredicate (WherePredicate-m.Ty p) = Node (Right p)

-- `where` and predicates; without predicates nothing is printed
abbrev pub view_WhereClause : WhereClause-in.Inside → Syntax
view_WhereClause a = Node (Vanishing false (Left (Both (where_syntax a.where_token) (solid (list_of syntax_of_WherePredicate comma_syntax a.predicates.pairs a.predicates.last)))))

-- a clause is there, where a rule reads one or none
abbrev pub is_there : Syntax → Bool
is_there (Node (Vanishing b (Left s))) = true
is_there s = false

-- a clause where it is next
abbrev pub clause_form : Grammar
clause_form = plainly (word w_where) & rule predicates

unfoldable pub clause_there : Parser
clause_there ts = wrap (λ s. Node (Vanishing false (Left s))) (parse_form clause_form ts)
