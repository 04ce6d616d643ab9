use Rattle.std.proofs.Common.{◌≡◌, ◌<◌, min, List, map, length, ◌++◌, sym, ap, ap₂, ◌∙◌, arith}
use Rattle.std.proofs.lemmas.Result.{on_ok_weaker}
use Rattle.syn_grammar.specs.Tokens.{◌⧺◌}
use Rattle.syn_grammar.specs.Grammar.{print}
use Rattle.syn_grammar.specs.Promises.{itself}
use Rattle.syn_tokens.specs.Leaves.{maybe}
use Rattle.syn_tokens.specs.Lists.{listed}
use Rattle.syn_tokens.specs.Kinds.{as_syntax, gt_syntax, path_sep_syntax}
use Rattle.syn_tokens.specs.Building.{added}
use Rattle.syn_tokens.proofs.Prints.{added_more}
use Rattle.syn_lower.specs.QualifiedPaths.{after_type}
use Rattle.syn_lower.specs.QualifiedPrints.{words_row}
use Rattle.syn_lower.proofs.QualifiedPaths.{print_words_inside, print_part}
use Rattle.syn_lower.proofs.nested.print.qualified.print_after_type.Goals as goal

pub returns-in_ok-print_in-4-clause-prints : goal.returns-in_ok-print_in-4-clause-prints
returns-in_ok-print_in-4-clause-prints g c =
    let q = c.qself.inside in
    let p = c.path.inside in
    let as_print = print (maybe as_syntax q.as_token) in
    let leading = print (maybe path_sep_syntax p.leading_colon) in
    let words = words_row itself path_sep_syntax (print (gt_syntax q.gt_token)) c.min-inside.result p.segments.pairs p.segments.last in
    let some : 0 < min q.position (length (map (λ x. x.0) p.segments.pairs ++ listed p.segments.last)) = omega (arith, c.if-inside-eq0.false, c.min-inside.ensures, c.len.ensures) in
    let e : print (after_type c.args.qself.now c.args.path.now) ≡ as_print ⧺ (leading ⧺ words) =
    ap₂ (λ s t. print (after_type s t)) (sym c.qself.view_is) (sym c.path.view_is)
    ∙ print_words_inside itself path_sep_syntax q.position (maybe as_syntax q.as_token) (gt_syntax q.gt_token) (maybe path_sep_syntax p.leading_colon) p.segments.pairs p.segments.last some
    ∙ ap₂ (λ s n. s ⧺ (leading ⧺ words_row itself path_sep_syntax (print (gt_syntax q.gt_token)) n p.segments.pairs p.segments.last)) (print_part as_syntax q.as_token) (omega (arith, c.min-inside.ensures, c.len.ensures)) in
    on_ok_weaker c.print_words.result
    (λ h. h ∙ ap (λ b. added b words) c.in_ok-print_in-4.ensures.prints ∙ added_more c.print_in-else-inside-eq0.new.out leading words
    ∙ ap (λ b. added b (leading ⧺ words)) c.in_ok-print_in-3.ensures.prints ∙ added_more c.args.out.now as_print (leading ⧺ words) ∙ ap (added c.args.out.now) (sym e))
    c.print_words.ensures.row
