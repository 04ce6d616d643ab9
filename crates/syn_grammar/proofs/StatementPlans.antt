-- Statements are read by plans: attributes once, and then by whether an item is next.
use Rattle.std.proofs.Common.{◌≡◌, List, [], ◌∷◌, Bool, true, false, Some, None, refl, ap, ap₂, ◌∙◌}
use Rattle.syn_grammar.specs.Tokens.{Stream, ended}
use Rattle.syn_grammar.specs.Rules.{attributes, kept_in_block, kept_item_rest, item_rest, kept_item, statement, statements, statement_rest, crate_macro, crate_macro_item, brace_macro, statement_end}
use Rattle.syn_grammar.specs.Shape.{Macro, an_item, operand, said_macro, choice}
use Rattle.syn_grammar.specs.Grammar.{empty, ◌&◌, when◌then◌else◌, rule, shaped, Syntax, Both, Left, Right, Node}
use Rattle.syn_grammar.specs.Forms.{never}
use Rattle.syn_grammar.specs.Table.{at_semicolon, at_item, at_postfix_mark}
use Rattle.syn_grammar.specs.Values.{core, stated, in_list, shape}
use Rattle.syn_grammar.specs.Take.{Out, Parser, sees}
use Rattle.syn_grammar.specs.Run.{wrap, and_then, branch, first_of, caught, parse_form, parse_rule}
use Rattle.syn_grammar.specs.ItemStatements.{item_statement, item_listed}
use Rattle.syn_grammar.specs.Plan.{follow, by_test, run_plan}
use Rattle.syn_grammar.specs.ItemPlan.{item_plan, item_after}
use Rattle.syn_grammar.specs.StatementPlans.{crate_statement_end, other_statement, of_other, other_listed, crate_macro_plan, StatementPlan, StatementsPlan, CrateMacroPlan}
use Rattle.syn_grammar.proofs.Run.{parse_rule_is}
use Rattle.syn_grammar.proofs.ItemStatements.{item_statements}
use Rattle.syn_grammar.proofs.ItemPlan.{item_plan_is}
use Rattle.syn_grammar.proofs.Threads.{in_left, in_right, in_node, in_shape, reading, of_kind, Thread, first, Fits, fits_is}

-- what a plan of an item reads after its attributes
item_at : (ts m : Stream) (a : Syntax) → parse_rule attributes ts ≡ Some (a, m) → run_plan item_plan kept_item ts ts ≡ run_plan (item_after a) kept_item ts m
unfolding item_plan
item_at ts m a e = ap (λ o. follow (λ s r. run_plan (item_after s) kept_item ts r) o) e

-- nothing is verbatim where no item is next, or where no attributes are read
in_block_none : (ts : Stream) → parse_rule attributes ts ≡ None → parse_rule kept_in_block ts ≡ None
in_block_none ts e = parse_rule_is kept_in_block ts ∙ ap (λ o. wrap Node (caught ts (and_then o (λ n. branch (sees at_item n) (parse_rule kept_item_rest n) None)))) e

in_block_other : (ts m : Stream) (a : Syntax) → parse_rule attributes ts ≡ Some (a, m) → sees at_item m ≡ false → parse_rule kept_in_block ts ≡ None
in_block_other ts m a e v =
    parse_rule_is kept_in_block ts ∙ ap (λ o. wrap Node (caught ts (and_then o (λ n. branch (sees at_item n) (parse_rule kept_item_rest n) None)))) e
    ∙ ap (λ v. wrap Node (caught ts (wrap (Both a) (branch v (parse_rule kept_item_rest m) None)))) v

-- ---- a statement alone
abbrev alone_of : Out → Out → Parser → Out
alone_of k o f = wrap Node (wrap core (first_of (wrap (shape an_item) k) (wrap stated (and_then o f))))

abbrev following : Parser
following n = branch (sees at_item n) (wrap (shape an_item) (parse_rule item_rest n)) (parse_form other_statement n)

other_is : (a : Syntax) (o : Out) → wrap Node (wrap core (wrap Right (wrap stated (wrap (Both a) (wrap Right o))))) ≡ wrap (of_other a) o
other_is a (Some x) = refl
other_is a None = refl

pub statement_plan_is : StatementPlan
statement_plan_is ts = go (parse_rule attributes ts) refl
  where
    statement_is : parse_rule statement ts ≡ alone_of (parse_rule kept_in_block ts) (parse_rule attributes ts) following
    statement_is = parse_rule_is statement ts

    by_look : (a : Syntax) (m : Stream) → parse_rule attributes ts ≡ Some (a, m) → (v : Bool) → sees at_item m ≡ v →
        parse_rule statement ts ≡ by_test v (wrap item_statement (run_plan (item_after a) kept_item ts m)) (wrap (of_other a) (parse_form other_statement m))
    by_look a m e true v = (item_statements ts m a e v).0 ∙ ap (wrap item_statement) (item_plan_is ts ∙ item_at ts m a e)
    by_look a m e false v =
        statement_is ∙ ap₂ (λ k o. alone_of k o following) (in_block_other ts m a e v) e
        ∙ ap (λ v. wrap Node (wrap core (wrap Right (wrap stated (wrap (Both a) (branch v (wrap (shape an_item) (parse_rule item_rest m)) (parse_form other_statement m))))))) v
        ∙ other_is a (parse_form other_statement m)

    go : (o : Out) → parse_rule attributes ts ≡ o →
        parse_rule statement ts ≡ follow (λ a m. by_test (sees at_item m) (wrap item_statement (run_plan (item_after a) kept_item ts m)) (wrap (of_other a) (parse_form other_statement m))) o
    go None e = statement_is ∙ ap₂ (λ k o. alone_of k o following) (in_block_none ts e) e
    go (Some x) e = by_look x.0 x.1 e (sees at_item x.1) refl

-- ---- statements
abbrev listed_of : Out → Out → Parser → Out
listed_of k o f = wrap Node (wrap Right (wrap core (wrap Right (wrap in_list (first_of (and_then (wrap (shape an_item) k) (parse_rule statements)) (and_then o f))))))

abbrev after_in_list : Parser
after_in_list n = branch (sees at_item n) (wrap (shape an_item) (and_then (parse_rule item_rest n) (parse_rule statements))) (parse_rule statement_rest n)

other_listed_is : (a : Syntax) (o : Out) → wrap Node (wrap Right (wrap core (wrap Right (wrap in_list (wrap Right (wrap (Both a) (wrap Right o))))))) ≡ wrap (other_listed a) o
other_listed_is a (Some x) = refl
other_listed_is a None = refl

listed_is : (ts : Stream) (nothing lone : Out) →
    parse_rule statements ts ≡ wrap Node (branch (sees ended ts) nothing (wrap core (branch (sees at_semicolon ts) lone (wrap in_list (first_of (and_then (wrap (shape an_item) (parse_rule kept_in_block ts)) (parse_rule statements)) (and_then (parse_rule attributes ts) after_in_list)))))) →
    sees ended ts ≡ false → sees at_semicolon ts ≡ false → parse_rule statements ts ≡ listed_of (parse_rule kept_in_block ts) (parse_rule attributes ts) after_in_list
listed_is ts nothing lone e u v =
    e ∙ ap₂ (λ u v. wrap Node (branch u nothing (wrap core (branch v lone (wrap in_list (first_of (and_then (wrap (shape an_item) (parse_rule kept_in_block ts)) (parse_rule statements)) (and_then (parse_rule attributes ts) after_in_list))))))) u v

pub statements_plan_is : StatementsPlan
statements_plan_is ts end_off lone_off = go (listed_is ts _ _ (parse_rule_is statements ts) end_off lone_off) (parse_rule attributes ts) refl
  where
    by_look : (parse_rule statements ts ≡ listed_of (parse_rule kept_in_block ts) (parse_rule attributes ts) after_in_list) → (a : Syntax) (m : Stream) → parse_rule attributes ts ≡ Some (a, m) → (v : Bool) → sees at_item m ≡ v →
        parse_rule statements ts ≡ by_test v (wrap item_listed (and_then (run_plan (item_after a) kept_item ts m) (parse_rule statements))) (wrap (other_listed a) (parse_rule statement_rest m))
    by_look l a m e true v = (item_statements ts m a e v).1 end_off lone_off ∙ ap (λ o. wrap item_listed (and_then o (parse_rule statements))) (item_plan_is ts ∙ item_at ts m a e)
    by_look l a m e false v =
        l ∙ ap₂ (λ k o. listed_of k o after_in_list) (in_block_other ts m a e v) e
        ∙ ap (λ v. wrap Node (wrap Right (wrap core (wrap Right (wrap in_list (wrap Right (wrap (Both a) (branch v (wrap (shape an_item) (and_then (parse_rule item_rest m) (parse_rule statements))) (parse_rule statement_rest m))))))))) v
        ∙ other_listed_is a (parse_rule statement_rest m)

    go : (parse_rule statements ts ≡ listed_of (parse_rule kept_in_block ts) (parse_rule attributes ts) after_in_list) → (o : Out) → parse_rule attributes ts ≡ o → parse_rule statements ts ≡
        follow (λ a m. by_test (sees at_item m) (wrap item_listed (and_then (run_plan (item_after a) kept_item ts m) (parse_rule statements))) (wrap (other_listed a) (parse_rule statement_rest m))) o
    go l None e = l ∙ ap₂ (λ k o. listed_of k o after_in_list) (in_block_none ts e) e
    go l (Some x) e = by_look l x.0 x.1 e (sees at_item x.1) refl

-- ---- a macro of `crate`
abbrev crate_kinds : List Thread
crate_kinds =
    of_kind (reading (shaped an_item (rule crate_macro_item & (when at_postfix_mark then empty else never))) (in_left ∷ in_shape choice ∷ in_node ∷ []))
    ∷ of_kind (reading (shaped said_macro (shaped (operand Macro) (rule brace_macro) & (when at_postfix_mark then never else rule statement_end))) (in_right ∷ in_shape choice ∷ in_node ∷ [])) ∷ []

crate_fits : Fits crate_macro_plan [] crate_kinds
unfolding crate_macro_plan crate_statement_end
crate_fits = (λ p. λ x. (λ b. (tt, λ z. refl), tt), λ p. λ x. (λ b. (refl, λ z. refl), λ n. λ g. (refl, tt)))

of_two : (o q : Out) → wrap Node (wrap core (first_of o q)) ≡ first (wrap Node (wrap core (wrap Left o))) (first (wrap Node (wrap core (wrap Right q))) None)
of_two (Some x) q = refl
of_two None (Some x) = refl
of_two None None = refl

pub crate_macro_plan_is : CrateMacroPlan
crate_macro_plan_is ts = parse_rule_is crate_macro ts ∙ of_two _ _ ∙ fits_is crate_macro_plan [] crate_kinds kept_item ts ts crate_fits tt
