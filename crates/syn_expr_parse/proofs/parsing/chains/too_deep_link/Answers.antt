use Rattle.std.proofs.Common.{rules, ◌≡◌, ℕ, ◌+◌, ◌*◌, ◌<◌, [], ◌∷◌, ◌++◌, arith}
use Rattle.syn_grammar.specs.Tokens.{end}
use Rattle.syn_grammar.specs.Take.{left}
use Rattle.syn_tokens.specs.Cursors.{before_next}
use Rattle.syn_expr_parse.proofs.LinkLevels.{entered, passed}
use Rattle.syn_expr_parse.proofs.parsing.chains.too_deep_link.Goals as goal

pub trees-smaller-then-len-levels : goal.trees-smaller-then-len-levels
trees-smaller-then-len-levels c =
    let next : c.trees.here.rest ≡ before_next c.in-Some.tree c.in-Some.rest = search rules in
    let same : c.see-inner.new.self.rest ≡ c.in-Some.rest = search rules in
    let less : left c.replace.new.dest.rest < left (before_next c.in-Some.tree end) = search rules in
    let pushed : c.push.new.self.items ≡ c.trees.outside.items ++ c.see-inner.new.self ∷ [] = search rules in
    entered c.in-Some.tree c.trees.here.rest c.in-Some.rest c.replace.new.dest.rest c.trees.outside.items c.push.new.self.items c.see-inner.new.self next same less pushed

pub trees-smaller-in-Some-inner : goal.trees-smaller-in-Some-inner
trees-smaller-in-Some-inner c =
    let next : c.trees.here.rest ≡ before_next c.in-Some.tree c.in-Some.rest = search rules in
    let same : c.see-inner.new.self.rest ≡ c.in-Some.rest = search rules in
    let less : left c.see-inner.new.self.rest < left c.trees.here.rest = passed c.in-Some.tree c.trees.here.rest c.in-Some.rest c.see-inner.new.self.rest next same in
    omega (arith, less)

pub trees-smaller : goal.trees-smaller
trees-smaller c =
    let next : c.trees.here.rest ≡ before_next c.in-Some.tree c.in-Some.rest = search rules in
    let same : c.see-inner.new.self.rest ≡ c.in-Some.rest = search rules in
    let less : left c.see-inner.new.self.rest < left c.trees.here.rest = passed c.in-Some.tree c.trees.here.rest c.in-Some.rest c.see-inner.new.self.rest next same in
    omega (arith, less)
