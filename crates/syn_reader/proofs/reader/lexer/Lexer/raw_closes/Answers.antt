use Rattle.std.proofs.Common.{◌≡◌, ◌-◌, ◌≤◌, Bor, ℕ, List, length, ap, ◌∙◌, arith}
use Rattle.std.proofs.lemmas.List.{length-drop}
use Rattle.syn_reader.proofs.Scans.{left_none, raw_string_ends, raw_string_hash, raw_string_quote, raw_string_none}
use Rattle.syn_reader.proofs.reader.lexer.Lexer.raw_closes.Goals as goal

pub loop-hashes-preserved : goal.loop-hashes-preserved
loop-hashes-preserved c = (
  (c.step.ensures.onward.0 ∙ c.loop-hashes.invariant.0.0, omega arith),
  omega (arith, c.in-Some.ensures.further),
  c.loop-hashes.invariant.2 ∙ raw_string_hash _ _ _ _ c.in-Some.ensures.left c.if-character-ne35.false,
)

pub returns-then-character-eq34-clause-closes : goal.returns-then-character-eq34-clause-closes
returns-then-character-eq34-clause-closes c =
    c.loop-hashes.invariant.2 ∙ (raw_string_quote _ _ _ _ c.in-Some.ensures.left c.if-character-eq34.true ∙ c.raw_content_closes.ensures.closes)

pub returns-then-character-ne35-clause-closes : goal.returns-then-character-ne35-clause-closes
returns-then-character-ne35-clause-closes c =
    c.loop-hashes.invariant.2 ∙ raw_string_none _ _ _ _ c.in-Some.ensures.left c.if-character-ne35.true c.if-character-eq34.false

pub returns-in_default-clause-closes : goal.returns-in_default-clause-closes
returns-in_default-clause-closes c = c.loop-hashes.invariant.2 ∙ raw_string_ends _ _ c.in_default.ensures.left

pub returns-clause-closes : goal.returns-clause-closes
returns-clause-closes c =
    let size : length c.rest-hashes-end.result.now ≡ length c.args.self.now.cursor.text.now - c.args.self.now.cursor.offset =
    ap length c.rest-hashes-end.ensures ∙ length-drop c.args.self.now.cursor.offset c.args.self.now.cursor.text.now in
    let same : length c.loop-hashes.self.cursor.text.now ≡ length c.args.self.now.cursor.text.now =
    ap (λ (t : Bor (List ℕ)). length t.now) c.loop-hashes.invariant.0.0 in
    let end : length c.loop-hashes.self.cursor.text.now ≤ c.loop-hashes.self.cursor.offset = omega (arith, size, same) in
    c.loop-hashes.invariant.2 ∙ raw_string_ends _ _ (left_none c.loop-hashes.self.cursor.text.now c.loop-hashes.self.cursor.offset end)
