-- RULES SPECIALISED TO THE NEXT TOKEN: their forms, without the alternatives that it rules out.
use Rattle.std.specs.Prelude.{◌≡◌, ℕ, zero, suc, Bool, true, false, List}
use Rattle.syn_grammar.specs.Tokens.{Stream, Look, pick}
use Rattle.syn_grammar.specs.Rules.{Rule}
use Rattle.syn_grammar.specs.Grammar.{Grammar, empty, ◌&◌, when◌then◌else◌, rule, shaped, unshown, among}
use Rattle.syn_grammar.specs.Table.{table}
use Rattle.syn_parse.specs.Firsts.{Begins}
use Rattle.syn_parse.specs.declared.buffer.first.First.{First}
use Rattle.syn_recognize.specs.May.{may, sure}
use Rattle.syn_recognize.specs.Written.{Written}
use Rattle.syn_recognize.specs.Copies.{copy_form}

-- before this next token, the form is read as the rule is
unfoldable pub Opens : First → Grammar → Rule → Type 0
Opens f g k = (w : Written) (ts : Stream) → Begins f ts → copy_form (rule k) w ts ≡ copy_form g w ts

-- one form and then another, which is known where the first reads nothing
abbrev pub both : Grammar → Grammar → Grammar → Grammar
both empty h p = p
both unshown h p = p
both g h p = g & h

-- a choice, by whether its lookahead holds for sure, and whether it may hold
abbrev pub either_way : Bool → Bool → Look → Grammar → Grammar → Grammar
either_way true b c g h = g
either_way false true c g h = when c then g else h
either_way false false c g h = h

-- a form without the excluded alternatives, in so many steps; these rules are opened
abbrev pub pruned : List Rule → ℕ → First → Grammar → Grammar
pruned ks zero f g = g
pruned ks (suc n) f (when c then g else h) = either_way (sure c f) (may c f) c (pruned ks n f g) (pruned ks n f h)
pruned ks (suc n) f (shaped j g) = pruned ks n f g
pruned ks (suc n) f (g & h) = both (pruned ks n f g) h (pruned ks n f h)
pruned ks (suc n) f (rule k) = pick (among k ks) (pruned ks n f (table k)) (rule k)
pruned ks (suc n) f g = g
