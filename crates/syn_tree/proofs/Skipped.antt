-- A visibility that isn't kept: a variant's is read as any other.
use Rattle.std.proofs.Common.{◌≡◌, Bool, true, false, Some, None, refl, sym, ap, ◌∙◌}
use Rattle.syn_grammar.specs.Words.{w_pub}
use Rattle.syn_grammar.specs.Tokens.{Stream, None as Invisible, at_empty_group, at_word}
use Rattle.syn_grammar.specs.Rules.{visibility}
use Rattle.syn_grammar.specs.Grammar.{Syntax, Nothing, Left, Right, Node, empty, inside}
use Rattle.syn_grammar.specs.Take.{Out, sees}
use Rattle.syn_grammar.specs.Run.{parse_form, parse_rule, vanish, wrap}
use Rattle.syn_grammar.proofs.Each.{visibility_is}
use Rattle.syn_grammar.proofs.Looks.{sees_or}
use Rattle.syn_tree.specs.Data.{unshown_visibility}

vanish_wrap : (f : Syntax → Syntax) (o : Out) → vanish true (wrap f o) ≡ vanish true o
vanish_wrap f (Some p) = refl
vanish_wrap f None = refl

vanish_twice : (o : Out) → vanish true (vanish true o) ≡ vanish true o
vanish_twice (Some p) = refl
vanish_twice None = refl

abbrev empty_group : Stream → Out
empty_group ts = parse_form (inside Invisible empty) ts

pub visibility_skipped : (ts : Stream) → parse_form unshown_visibility ts ≡ vanish true (parse_rule visibility ts)
visibility_skipped ts = go (sees (at_word w_pub) ts) (sees at_empty_group ts) refl refl
  where
    go : (p e : Bool) → sees (at_word w_pub) ts ≡ p → sees at_empty_group ts ≡ e → parse_form unshown_visibility ts ≡ vanish true (parse_rule visibility ts)
    go true e h k =
        let v = parse_rule visibility ts in
        rw (sees_or (at_word w_pub) at_empty_group ts, h) (vanish_wrap Left (wrap Left v) ∙ vanish_wrap Left v)
    go false true h k =
        let g = empty_group ts in
        let read : parse_rule visibility ts ≡ wrap Node (wrap Right (vanish true (wrap Left g))) = visibility_is ts ∙ rw (h, k) refl in
        let left = vanish_wrap Left (wrap Right g) ∙ vanish_wrap Right g in
        let right = vanish_wrap Node (wrap Right (vanish true (wrap Left g))) ∙ vanish_wrap Right (vanish true (wrap Left g)) ∙ vanish_twice (wrap Left g) ∙ vanish_wrap Left g in
        rw (sees_or (at_word w_pub) at_empty_group ts, h, k) (left ∙ sym (ap (vanish true) read ∙ right))
    go false false h k =
        let read : parse_rule visibility ts ≡ wrap Node (wrap Right (vanish true (wrap Right (Some (Nothing, ts))))) = visibility_is ts ∙ rw (h, k) refl in
        rw (sees_or (at_word w_pub) at_empty_group ts, h, k) (sym (ap (vanish true) read))
