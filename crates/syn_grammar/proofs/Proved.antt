-- The laws of the table, from the laws of every table that passes the tests.
use Rattle.std.proofs.Common.{◌≡◌, true, false, refl, sym, ap, ◌∙◌, subst}
use Rattle.syn_grammar.specs.Tokens.{Stream, end, ◌⧺◌, plain}
use Rattle.syn_grammar.specs.Grammar.{DerivesPrefix, rule, print, renew, normal, plain_syntax}
use Rattle.syn_grammar.specs.Table.{table}
use Rattle.syn_grammar.specs.Laws.{OneTree, SpansDecideNothing, PrintIsRead, NormalPrints, NormalIsIdempotent, NormalForgetsSpans, SameForm, EndsByItself, PrintIsVisible}
use Rattle.syn_grammar.proofs.Visible.{visible_print}
use Rattle.syn_grammar.proofs.Extend.{alone}
use Rattle.syn_grammar.specs.Rules.{Rule, derive_input, item, trait_item, impl_item, foreign_item}
use Rattle.syn_grammar.proofs.Plain.{print_normal, normal_normal, normal_plain, normal_renew}
use Rattle.syn_grammar.proofs.Spans.{respan, like_of_eq, Like}
use Rattle.syn_grammar.proofs.Unique.{unique}
use Rattle.syn_grammar.proofs.Streams.{append_end}
use Rattle.syn_grammar.proofs.Summaries.{at_end}
use Rattle.syn_grammar.proofs.Reprint.{again}
use Rattle.syn_grammar.proofs.Said.{start_of, summary_of, heard_of, closed_of, starts_hold, never_follow_hold, closed_hold, unions_hold, summaries_hold, ends_hold}

pub one_tree : OneTree
one_tree k ts s t r q a b = unique table start_of starts_hold never_follow_hold unions_hold (rule k) refl ts s r t q a b

like_end : (ts : Stream) → Like end ts → ts ≡ end
like_end end h = refl
like_end _ h = elim h [ ]

pub spans : SpansDecideNothing
spans k a b s e d =
    let (u, r, x, p, q) = respan table (rule k) s a end b d (like_of_eq a b e) in
    (u, subst (λ z. DerivesPrefix table (rule k) u b z) (like_end r q) x, p)

pub print_is_read : PrintIsRead
print_is_read k ts s d =
    let x = again summary_of heard_of start_of closed_of table summaries_hold starts_hold never_follow_hold closed_hold false (rule k) s ts end end refl d (at_end (summary_of false k) (ends_hold k)) in
    (renew s, subst (λ z. DerivesPrefix table (rule k) (renew s) z end) (append_end (print s)) x.0, normal_renew s)

pub normal_prints : NormalPrints
normal_prints s = print_normal s

pub normal_is_idempotent : NormalIsIdempotent
normal_is_idempotent = normal_normal

pub normal_forgets_spans : NormalForgetsSpans
normal_forgets_spans s = sym (normal_plain s)

pub same_form : SameForm
same_form k a b s t d e = (λ p. sym (print_normal s) ∙ ap print p ∙ print_normal t, back)
  where
    back : plain (print s) ≡ plain (print t) → normal s ≡ normal t
    back p =
        let (u, x, i) = print_is_read k a s d in
        let (v, y, j) = print_is_read k b t e in
        let (w, z, l) = spans k (print s) (print t) u p x in
        let m = (one_tree k (print t) w v end end z y).0 in
        sym i ∙ sym (normal_plain u) ∙ ap normal (sym l ∙ ap plain_syntax m) ∙ normal_plain v ∙ j

pub ends_by_itself : (k : Rule) → closed_of k ≡ true → EndsByItself k
ends_by_itself k w a r s d =
    let (c, e, f) = alone closed_of table closed_hold (rule k) s a end w d in
    subst (λ z. DerivesPrefix table (rule k) s (z ⧺ r) r) (sym (append_end c) ∙ sym e) (f r).0

pub derive_input_ends : EndsByItself derive_input
derive_input_ends = ends_by_itself derive_input refl

pub item_ends : EndsByItself item
item_ends = ends_by_itself item refl

pub trait_item_ends : EndsByItself trait_item
trait_item_ends = ends_by_itself trait_item refl

pub impl_item_ends : EndsByItself impl_item
impl_item_ends = ends_by_itself impl_item refl

pub foreign_item_ends : EndsByItself foreign_item
foreign_item_ends = ends_by_itself foreign_item refl

pub print_is_visible : PrintIsVisible
print_is_visible k ts s v d = visible_print table (rule k) s ts end d v
