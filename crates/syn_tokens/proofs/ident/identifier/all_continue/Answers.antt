use Rattle.std.proofs.Common.{rules}
use Rattle.syn_tokens.proofs.Names.{one_less, it_stops, it_ends}
use Rattle.syn_tokens.proofs.ident.identifier.all_continue.Goals as goal

pub returns-then-not-is_xid_continue : goal.returns-then-not-is_xid_continue
returns-then-not-is_xid_continue c = it_stops _ _ c.in-Some.character c.loop-character.invariant c.in-Some.ensures.steps.0 (search rules)

pub loop-character-preserved : goal.loop-character-preserved
loop-character-preserved c = one_less _ _ c.in-Some.character c.loop-character.invariant c.in-Some.ensures.steps.0 (search rules)

pub returns : goal.returns
returns c = it_ends _ c.loop-character.invariant c.in-None.ensures.steps.0.0
