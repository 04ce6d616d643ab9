use Rattle.std.proofs.Common.{◌≡◌, ◌<◌, true, false, Some, rules, arith, ap, sym, ◌∙◌}
use Rattle.syn_grammar.specs.Words.{colons}
use Rattle.syn_grammar.specs.Tokens.{at_path_word}
use Rattle.syn_grammar.specs.Grammar.{name_or}
use Rattle.syn_grammar.specs.Take.{left, sees, take_mark, take_token}
use Rattle.syn_grammar.specs.Table.{at_bang, at_colons}
use Rattle.syn_grammar.proofs.Takes.{mark_less, token_less}
use Rattle.syn_parse.specs.FirstTokens.{path_words}
use Rattle.syn_parse.specs.Peeks.{past}
use Rattle.syn_recognize.proofs.PathLooks.{bang_found, path_ends, path_continues}
use Rattle.syn_recognize.proofs.Passed.{colons_passed, word_passed}
use Rattle.syn_recognize.proofs.looks.after_path.Goals as goal

pub words-init : goal.words-init
words-init c = c.after_colons-ahead.ensures

pub returns-then-at_bang : goal.returns-then-at_bang
returns-then-at_bang c =
    let word : sees at_path_word c.words.ahead ≡ true = search rules in
    let m = c.past-ahead.result in
    let same : m ≡ past c.words.ahead = search rules in
    let w = word_passed c.words.ahead word in
    let got : take_token (name_or path_words) c.words.ahead ≡ Some (w.0, m) = w.1 ∙ ap (λ z. Some (w.0, z)) (sym same) in
    let bang : sees at_bang m ≡ true = search rules in
    let found = bang_found (name_or path_words) c.words.ahead w.0 m word got bang in
    (c.words.invariant.0 ∙ found.0, c.words.invariant.1 ∙ found.1, c.words.invariant.2 ∙ found.2)

pub returns-then-not-peek : goal.returns-then-not-peek
returns-then-not-peek c =
    let word : sees at_path_word c.words.ahead ≡ true = search rules in
    let m = c.past-ahead.result in
    let same : m ≡ past c.words.ahead = search rules in
    let w = word_passed c.words.ahead word in
    let got : take_token (name_or path_words) c.words.ahead ≡ Some (w.0, m) = w.1 ∙ ap (λ z. Some (w.0, z)) (sym same) in
    let bang : sees at_bang m ≡ false = search rules in
    let more : sees at_colons m ≡ false = search rules in
    let ends = path_ends (name_or path_words) c.words.ahead w.0 m word got bang more in
    (c.words.invariant.0 ∙ ends.0, c.words.invariant.1 ∙ ends.1, c.words.invariant.2 ∙ ends.2)

pub words-preserved : goal.words-preserved
words-preserved c =
    let word : sees at_path_word c.words.ahead ≡ true = search rules in
    let m = c.past-ahead.result in
    let r = c.past-ahead-in-words.result in
    let same : m ≡ past c.words.ahead = search rules in
    let following : r ≡ past (past m) = search rules in
    let w = word_passed c.words.ahead word in
    let got : take_token (name_or path_words) c.words.ahead ≡ Some (w.0, m) = w.1 ∙ ap (λ z. Some (w.0, z)) (sym same) in
    let bang : sees at_bang m ≡ false = search rules in
    let more : sees at_colons m ≡ true = search rules in
    let s = colons_passed m more in
    let sign : take_mark colons m ≡ Some (s.0, r) = s.1 ∙ ap (λ z. Some (s.0, z)) (sym following) in
    let on = path_continues (name_or path_words) c.words.ahead w.0 m word got bang more s.0 r sign in
    (c.words.invariant.0 ∙ on.0, c.words.invariant.1 ∙ on.1, c.words.invariant.2 ∙ on.2)

pub words-smaller : goal.words-smaller
words-smaller c =
    let word : sees at_path_word c.words.ahead ≡ true = search rules in
    let m = c.past-ahead.result in
    let r = c.past-ahead-in-words.result in
    let same : m ≡ past c.words.ahead = search rules in
    let following : r ≡ past (past m) = search rules in
    let w = word_passed c.words.ahead word in
    let got : take_token (name_or path_words) c.words.ahead ≡ Some (w.0, m) = w.1 ∙ ap (λ z. Some (w.0, z)) (sym same) in
    let more : sees at_colons m ≡ true = search rules in
    let s = colons_passed m more in
    let sign : take_mark colons m ≡ Some (s.0, r) = s.1 ∙ ap (λ z. Some (s.0, z)) (sym following) in
    let one : left m < left c.words.ahead = token_less (name_or path_words) c.words.ahead (w.0, m) got in
    let two : left r < left m = mark_less colons m (s.0, r) sign in
    omega (arith, one, two)
