use Rattle.std.proofs.Common.{◌≡◌, None, Some, rules, sym, ap, ◌∙◌}
use Rattle.syn_grammar.specs.Tokens.{None as Invisible, ended}
use Rattle.syn_grammar.specs.Take.{sees, take_group}
use Rattle.syn_parse.specs.Opened.{content_of}
use Rattle.syn_recognize.specs.Restricted.{holds_nothing}
use Rattle.syn_recognize.proofs.Restricted.{empty_group_seen}
use Rattle.syn_recognize.proofs.looks.at_empty_group.Goals as goal

pub returns-in-Some : goal.returns-in-Some
returns-in-Some c =
    let h : content_of (take_group Invisible c.args.input.now) ≡ Some c.in-Some.content = search rules in
    let seen : c.is_empty.result ≡ sees ended c.in-Some.content = search rules in
    seen ∙ sym (empty_group_seen c.args.input.now ∙ ap holds_nothing h)

pub returns-in-None : goal.returns-in-None
returns-in-None c =
    let h : take_group Invisible c.args.input.now ≡ None = search rules in
    sym (empty_group_seen c.args.input.now ∙ ap (λ o. holds_nothing (content_of o)) h)
