-- A path, a type and a where clause hold no self type of an impl, groups and lists aside.
use Rattle.std.proofs.Common.{◌≡◌, Bool, true, false, Some, None, sym, ap, ap₂, ◌∙◌, true≢false}
use Rattle.syn_grammar.specs.Tokens.{Stream, and, or, pick}
use Rattle.syn_grammar.specs.Rules.{Rule}
use Rattle.syn_grammar.specs.Shape.{untagged}
use Rattle.syn_grammar.specs.Grammar.{Grammar, Syntax, Node, Shaped, mark, rule}
use Rattle.syn_grammar.specs.Leads.{Reads}
use Rattle.syn_grammar.specs.Take.{Out}
use Rattle.syn_grammar.specs.Run.{parse_rule, runs, wrap}
use Rattle.syn_grammar.specs.Table.{table}
use Rattle.syn_grammar.proofs.Leads.{selfless, no_part_of}
use Rattle.syn_grammar.proofs.Run.{parse_rule_is}
use Rattle.syn_grammar.proofs.Sets.{and_left, and_right}
use Rattle.syn_grammar.proofs.Takes.{TreeAndRest, mark_known}
use Rattle.syn_item.specs.Impls.{is_shaped, without_self_type}

-- a rule and a mark

abbrev plain_form : Grammar → Bool
plain_form (mark b cs) = true
plain_form (rule k) = true
plain_form g = false

tree_of : (a b : Syntax) (m r : Stream) → ◌≡◌ {A = Out} (Some (a, m)) (Some (b, r)) → a ≡ b
tree_of a b m r e =
    let i : ◌≡◌ {A = TreeAndRest} (a, m) (b, r) = cc e in
    ap (λ (y : TreeAndRest). y.0) i

under_node : (o : Out) (s : Syntax) (r : Stream) → wrap Node o ≡ Some (s, r) → is_shaped s ≡ false
under_node None s r e = absurd (cc e)
under_node (Some p) s r e = ap is_shaped (sym (tree_of (Node p.0) s p.1 r e))

not_shaped : (g : Grammar) (m r : Stream) (s : Syntax) → plain_form g ≡ true → Reads g m s r → is_shaped s ≡ false
not_shaped (mark b cs) m r s e h = let (xs, i, c, l) = mark_known cs m (s, r) h in ap is_shaped i
not_shaped (rule k) m r s e h = under_node (runs parse_rule (table k) m) s r (sym (parse_rule_is k m) ∙ h)
not_shaped _ m r s e h = absurd (true≢false (sym e))

-- what such a form reads is left as it is
pub left_as_read : (g : Grammar) (m r : Stream) (s : Syntax) → and (plain_form g) (selfless g) ≡ true → Reads g m s r → without_self_type s ≡ s
left_as_read g m r s e h =
    ap₂ (λ a b. pick (or a b) (Shaped untagged s) s) (not_shaped g m r s (and_left (plain_form g) (selfless g) e) h) (no_part_of g m r s (and_right (plain_form g) (selfless g) e) h)
