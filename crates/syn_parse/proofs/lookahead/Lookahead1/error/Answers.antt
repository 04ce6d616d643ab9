use Rattle.std.proofs.Common.{◌≡◌, ◌∷◌, ◌<◌, length, ap, arith, refl, rules}
use Rattle.syn_parse.specs.Nexts.{IsNext}
use Rattle.syn_parse.proofs.Lookaheads.{one_known, first_known, all_known}
use Rattle.syn_parse.proofs.lookahead.Lookahead1.error.Goals as goal

pub loop-name-init : goal.loop-name-init
loop-name-init c = first_known c.new-error.result _ c.new-error.ensures

pub loop-name-preserved : goal.loop-name-preserved
loop-name-preserved c =
    let all : c.missed.result.now ≡ c.in-Some.first.now ∷ c.in-Some.others.now = search rules in
    let few : length c.in-Some.others.now < 4 = omega (arith, ap length all, c.missed.ensures.few) in
    rw c.combine.ensures (one_known c.span-here.result c.in-Some.others.now c.loop-name.name-index _ _ _ _ _ _ c.loop-name.invariant c.new-error.ensures c.new-in-loop-name.ensures refl c.loop-name-test.true few)

pub returns : goal.returns
returns c =
    let all : c.missed.result.now ≡ c.in-Some.first.now ∷ c.in-Some.others.now = search rules in
    let here : IsNext c.args.self.stream c.span-here.result = search rules in
    all_known c.args.self.stream c.span-here.result c.in-Some.first.now c.in-Some.others.now c.missed.result.now c.args.self.missed c.loop-name.name-index _ _ _ here all c.missed.ensures.names c.loop-name.invariant c.new-error.ensures refl c.loop-name-test.false
