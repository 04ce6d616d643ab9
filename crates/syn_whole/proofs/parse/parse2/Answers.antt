use Rattle.std.proofs.Common.{rules, ◌≡◌, true}
use Rattle.syn_tokens.specs.Entries.{encode}
use Rattle.syn_tokens.specs.Faults.{IsSyntaxError}
use Rattle.syn_whole.specs.HiddenGroups.{invisible_in}
use Rattle.syn_whole.proofs.HiddenGroups.{whole_hidden}
use Rattle.syn_whole.proofs.parse.parse2.Goals as goal

pub returns-then-has_invisible : goal.returns-then-has_invisible
returns-then-has_invisible g c =
    let hidden : invisible_in (encode c.args.tokens) ≡ true = search rules in
    whole_hidden IsSyntaxError g.T.Syntactic.syntax g.T.Parse.form c.args.tokens c.parse_opened.result hidden
