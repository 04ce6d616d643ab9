-- What ends a statement alone, and how its value is built.
use Rattle.std.proofs.Common.{◌≡◌, Bool, true, false, Some, None, refl, sym, ap, ◌∙◌}
use Rattle.syn_grammar.specs.Words.{semicolon}
use Rattle.syn_grammar.specs.Tokens.{Stream, pick}
use Rattle.syn_grammar.specs.Rules.{operand_rest, statement_end}
use Rattle.syn_grammar.specs.Grammar.{Syntax, Nothing, Both, Left, Right}
use Rattle.syn_grammar.specs.Table.{table, at_postfix_mark, at_semicolon}
use Rattle.syn_grammar.specs.Take.{Out, Chars, sees, take_mark, take_chars, taken, marked}
use Rattle.syn_grammar.specs.Values.{alone, moved, onto, sentence, stated}
use Rattle.syn_grammar.specs.Run.{wrap, and_then, branch, parse_rule, parse_form}
use Rattle.syn_grammar.proofs.Looks.{sees_mark}
use Rattle.syn_expr_parse.specs.StatementForms.{then_by, ending, following_block}

-- `;` is taken where it is next
semicolon_seen : (ts : Stream) → pick (sees at_semicolon ts) (wrap Left (take_mark semicolon ts)) None ≡ wrap Left (take_mark semicolon ts)
semicolon_seen ts = rw (sees_mark semicolon refl ts) (go (take_mark semicolon ts))
  where
    go : (o : Out) → pick (taken o) (wrap Left o) None ≡ wrap Left o
    go None = refl
    go (Some p) = refl

module _ (a : Syntax) where
  -- as its value is built
  abbrev pub made : Out → Out
  made o = wrap stated (wrap (Both a) o)

  pub made_branch : (b : Bool) (x y u v : Out) → made x ≡ u → made y ≡ v → made (branch b x y) ≡ pick b u v
  made_branch true None y u v h k = h
  made_branch true (Some p) y u v h k = h
  made_branch false x None u v h k = k
  made_branch false x (Some p) u v h k = k

  -- an expression and `;`
  pub with_semicolon : (b : Bool) (e : Syntax) (m : Stream) → wrap (alone b a e) (take_mark semicolon m) ≡ ending false b a e m
  unfolding take_mark
  with_semicolon b e m = go (take_chars semicolon m) ∙ ap (wrap (λ s. sentence b (moved a e) s)) (sym (semicolon_seen m))
    where
      go : (o : Chars) → wrap (alone b a e) (marked o) ≡ wrap (λ s. sentence b (moved a e) s) (wrap Left (marked o))
      go None = refl
      go (Some p) = refl

  going : (b : Bool) (e : Syntax) (o : Out) → wrap (alone b a e) (wrap Right (wrap Left (and_then o (take_mark semicolon)))) ≡ then_by (wrap (onto e) o) (λ x. ending false b a x)
  going b e None = refl
  going b e (Some p) = further (take_mark semicolon p.1) ∙ with_semicolon b (onto e p.0) p.1
    where
      further : (z : Out) → wrap (alone b a e) (wrap Right (wrap Left (wrap (Both p.0) z))) ≡ wrap (alone b a (onto e p.0)) z
      further None = refl
      further (Some y) = refl

  pub block_end : (b : Bool) (e : Syntax) (m : Stream) → wrap (alone b a e) (parse_form (table statement_end) m) ≡ following_block false b a e m
  block_end b e m = go (sees at_semicolon m) (sees at_postfix_mark m) (take_mark semicolon m)
    where
      first : (o : Out) → wrap (alone b a e) (wrap Left o) ≡ wrap (λ s. sentence b (moved a e) (Left s)) o
      first None = refl
      first (Some p) = refl

      go : (c d : Bool) (o : Out) → wrap (alone b a e) (branch c o (branch d (and_then (parse_rule operand_rest m) (take_mark semicolon)) (Some (Nothing, m))))
          ≡ pick c (wrap (λ s. sentence b (moved a e) (Left s)) o) (pick d (then_by (wrap (onto e) (parse_rule operand_rest m)) (λ x. ending false b a x)) (Some (sentence b (moved a e) (Right Nothing), m)))
      go true d o = first o
      go false true o = going b e (parse_rule operand_rest m)
      go false false o = refl
