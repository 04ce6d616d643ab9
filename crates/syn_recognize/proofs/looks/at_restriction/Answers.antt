use Rattle.std.proofs.Common.{◌≡◌, true, false, None, Some, rules, sym, ap, ◌∙◌}
use Rattle.syn_grammar.specs.Words.{w_in}
use Rattle.syn_grammar.specs.Tokens.{Paren, or, at_word}
use Rattle.syn_grammar.specs.Take.{sees, take_group}
use Rattle.syn_parse.specs.Opened.{content_of}
use Rattle.syn_recognize.specs.Restricted.{lone_word, restricts}
use Rattle.syn_recognize.proofs.Restricted.{restriction_seen}
use Rattle.syn_recognize.proofs.looks.at_restriction.Goals as goal

pub returns-then-peek : goal.returns-then-peek
returns-then-peek c =
    let h : content_of (take_group Paren c.args.input.now) ≡ Some c.in-Some.content = search rules in
    let seen : c.peek.result ≡ sees (at_word w_in) c.in-Some.content = search rules in
    let yes : c.peek.result ≡ true = search rules in
    yes ∙ sym (restriction_seen c.args.input.now ∙ ap restricts h ∙ ap (λ b. or b (lone_word c.in-Some.content)) (sym seen ∙ yes))

pub returns-else-peek : goal.returns-else-peek
returns-else-peek c =
    let h : content_of (take_group Paren c.args.input.now) ≡ Some c.in-Some.content = search rules in
    let seen : c.peek.result ≡ sees (at_word w_in) c.in-Some.content = search rules in
    let not : c.peek.result ≡ false = search rules in
    let lone : c.is_lone_word.result ≡ lone_word c.in-Some.content = search rules in
    lone ∙ sym (restriction_seen c.args.input.now ∙ ap restricts h ∙ ap (λ b. or b (lone_word c.in-Some.content)) (sym seen ∙ not))

pub returns-in-None : goal.returns-in-None
returns-in-None c =
    let h : take_group Paren c.args.input.now ≡ None = search rules in
    sym (restriction_seen c.args.input.now ∙ ap (λ o. restricts (content_of o)) h)
