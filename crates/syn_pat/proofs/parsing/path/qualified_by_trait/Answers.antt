use Rattle.std.proofs.Common.{◌≡◌, [], ◌∷◌, ◌++◌, Some, None, length, sym, ap, ◌∙◌, subst, rules}
use Rattle.std.specs.Prelude.{IfSome}
use Rattle.syn_grammar.specs.Words.{w_as, colons, greater}
use Rattle.syn_grammar.specs.Rules.{expression_words, type_path}
use Rattle.syn_grammar.specs.Grammar.{word, Both, Left, Node}
use Rattle.syn_grammar.specs.Take.{take_mark, take_token}
use Rattle.syn_grammar.specs.Run.{parse_rule}
use Rattle.syn_grammar.specs.Promises.{itself}
use Rattle.syn_tokens.specs.Kinds.{as_syntax, gt_syntax, lt_syntax, path_sep_syntax}
use Rattle.syn_tokens.specs.Leaves.{maybe}
use Rattle.syn_tokens.specs.Listing.{joined_of}
use Rattle.syn_tokens.specs.Lists.{values}
use Rattle.syn_lower.specs.QualifiedPaths.{qualified}
use Rattle.syn_lower.specs.TypeForms.{of_qualified}
use Rattle.syn_lower.specs.Types.{syntax_of_Type}
use Rattle.syn_pat.specs.PathForms.{path_syntax}
use Rattle.syn_pat.proofs.ExpressionPaths.{held, qualified_words, trait_read}
use Rattle.syn_pat.proofs.parsing.path.qualified_by_trait.Goals as goal

pub returns-clause-reads : goal.returns-clause-reads
returns-clause-reads c =
    let words = c.in_ok-leading_colon.segments in
    let others = c.in_ok-expression_words.field-0 in
    let sep = c.in_ok-read-2.field-0 in
    let lt = lt_syntax c.args.lt_token in
    let ty = syntax_of_Type c.args.ty.value in
    let as_token = as_syntax c.in_ok-as_token.as_token in
    let leading = maybe path_sep_syntax c.in_ok-leading_colon.leading_colon in
    let gt = gt_syntax c.in_ok-read.field-0 in
    let last = held words.last c.in_ok-leading_colon.ensures.ends in
    let pushed : c.push_punct.new.self ≡ record { pairs = words.pairs ++ (last.0, sep) ∷ []; last = None } =
    subst (λ o. IfSome o (λ value. c.push_punct.new.self ≡ record { pairs = words.pairs ++ (value, sep) ∷ []; last = None })) last.1 c.in_ok-push_punct.ensures.ok in
    let all : c.append.new.self ≡ record { pairs = (words.pairs ++ (last.0, sep) ∷ []) ++ others.pairs; last = others.last } =
    c.in_ok-append.ensures.ok ∙ ap (λ l. record { pairs = l.pairs ++ others.pairs; last = others.last }) pushed in
    let counted : c.len.result ≡ length (values words) = search rules in
    let a : take_token (word w_as) c.args.input.now ≡ Some (as_token, c.read.new.self) = search rules in
    let b : parse_rule type_path c.read.new.self ≡ Some (path_syntax c.in_ok-leading_colon.leading_colon words.pairs words.last, c.trait_path.new.input) = search rules in
    let d : take_mark greater c.trait_path.new.input ≡ Some (gt, c.read-2.new.self) = search rules in
    let e : take_mark colons c.read-2.new.self ≡ Some (path_sep_syntax sep, c.read-3.new.self) = search rules in
    let f : parse_rule expression_words c.read-3.new.self ≡ Some (joined_of itself path_sep_syntax others.pairs others.last, c.expression_words.new.input) = search rules in
    let split : qualified c.len.result (Left as_token) gt leading (joined_of itself path_sep_syntax c.append.new.self.pairs c.append.new.self.last)
    ≡ Both (Left (Both as_token (Node (Both leading (joined_of itself path_sep_syntax words.pairs (Some last.0)))))) (Both gt (Both (path_sep_syntax sep) (joined_of itself path_sep_syntax others.pairs others.last))) =
    ap (λ n. qualified n (Left as_token) gt leading (joined_of itself path_sep_syntax c.append.new.self.pairs c.append.new.self.last)) counted
    ∙ ap (λ l. qualified (length (values words)) (Left as_token) gt leading (joined_of itself path_sep_syntax l.pairs l.last)) all
    ∙ ap (λ o. qualified (length (values (record { pairs = words.pairs; last = o }))) (Left as_token) gt leading (joined_of itself path_sep_syntax ((words.pairs ++ (last.0, sep) ∷ []) ++ others.pairs) others.last)) last.1
    ∙ qualified_words last.0 sep others.pairs others.last (Left as_token) gt leading words.pairs in
    ap (of_qualified lt ty) (trait_read c.args.input.now c.read.new.self c.trait_path.new.input c.read-2.new.self c.read-3.new.self c.expression_words.new.input as_token
    (path_syntax c.in_ok-leading_colon.leading_colon words.pairs words.last) gt (path_sep_syntax sep) (joined_of itself path_sep_syntax others.pairs others.last) a b d e f)
    ∙ ap (λ o. Some (Node (Left (Node (Both lt (Both ty (Both (Left (Both as_token (Node (Both leading (joined_of itself path_sep_syntax words.pairs o))))) (Both gt (Both (path_sep_syntax sep) (joined_of itself path_sep_syntax others.pairs others.last)))))))), c.expression_words.new.input)) last.1
    ∙ ap (λ q. Some (Node (Left (Node (Both lt (Both ty q)))), c.expression_words.new.input)) (sym split)
