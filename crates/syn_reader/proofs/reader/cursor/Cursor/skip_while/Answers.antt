use Rattle.std.proofs.Common.{◌≡◌, ℕ, Bool, List, Option, sym, ◌∙◌}
use Rattle.std.specs.Fn.{AlwaysReturns}
use Rattle.std.specs.Str.Pattern.{FindsPrefixBy}
use Rattle.syn_reader.proofs.Characters.{trimmed_stops, cut_passes, cut_dropped}
use Rattle.syn_reader.proofs.reader.cursor.Cursor.skip_while.Goals as goal

pub returns-clause-skips : goal.returns-clause-skips
returns-clause-skips g c = λ passes always.
    let trimmed = c.trim_start_matches.ensures.matches.0 in
    let finds : List ℕ → Option ℕ → Type 0 =
    λ m o. (test : ℕ → Bool) → AlwaysReturns g.F.FnMut (λ a r. r ≡ test a.0) c.args.test → FindsPrefixBy test m o in
    let cut = cut_passes passes finds (λ m o found. found passes always) _ trimmed.0 _ c.rest.utf8 trimmed.1 in
    record { bytes = cut.front; utf8 = cut.front_utf8; all = cut.all; present = c.step_to.ensures.present cut.front (sym c.rest.ensures ∙ cut.split) }

pub returns-clause-left : goal.returns-clause-left
returns-clause-left g c = λ passes always.
    let trimmed = c.trim_start_matches.ensures.matches.0 in
    let stop = c.trim_start_matches.ensures.matches.1 in
    let finds : List ℕ → Option ℕ → Type 0 =
    λ m o. (test : ℕ → Bool) → AlwaysReturns g.F.FnMut (λ a r. r ≡ test a.0) c.args.test → FindsPrefixBy test m o in
    let cut = cut_passes passes finds (λ m o found. found passes always) _ trimmed.0 _ c.rest.utf8 trimmed.1 in
    let stops = trimmed_stops passes _ c.trim_start_matches.utf8 stop.0 (stop.1 passes always) stop.2 in
    rw (c.step_to.ensures.text, c.step_to.ensures.rest, ← c.rest.ensures) (cut_dropped passes _ _ cut stops)
