use Rattle.std.proofs.Common.{ℕ, List, ap, ◌∙◌}
use Rattle.std.proofs.lemmas.Result.{err_from_is_err_and, MatchResult-weaker, IfErr-weaker}
use Rattle.syn_reader.specs.declared.reader.lexer.Lexeme.{Lexeme}
use Rattle.syn_reader.specs.declared.reader.lexer.Lexeme.TheVariants.{Open, Close, Ident, Literal, Punct, Comment}
use Rattle.syn_reader.specs.Lexemes.{IsCutOut, IsNamed}
use Rattle.syn_reader.proofs.Flattened.{spells_visible}
use Rattle.syn_reader.proofs.Groups.{builds_spelled}
use Rattle.syn_reader.proofs.Refusals.{lexical_within, lexical_refusal, open_refusal}
use Rattle.syn_reader.proofs.reader.read_tokens.Goals as goal

pub loop-lexeme-init : goal.loop-lexeme-init
loop-lexeme-init c =
    let same = c.into_iter-lexeme-iterator.ensures.into_iter_gives in
    (tt, tt, rw same c.new-lexeme-items.ensures.text, rw (same, c.new-lexeme-items.ensures.beginning) (c.in_ok-trees.ensures _))

pub loop-lexeme-preserved : goal.loop-lexeme-preserved
loop-lexeme-preserved c =
    let same = c.loop-lexeme.invariant.2 in
    let found = rw same at c.in-Some.ensures.steps.1 in
    let follows = rw c.in_ok-lexeme.was at found in
    (tt, tt, ap (λ t. t.now) c.in-Some.ensures.steps.0 ∙ same, c.in_ok-add.ensures.builds _ _ _ c.loop-lexeme.invariant.3 follows)

named : (text : List ℕ) (l : Lexeme) (i j : ℕ) → IsCutOut text l i j → IsNamed l
named text (Open d s) i j h = tt
named text (Close d s) i j h = tt
named text (Ident x s) i j h = h.2.0
named text (Literal k x s) i j h = tt
named text (Punct p) i j h = tt
named text (Comment x s) i j h = tt

pub add-requires : goal.add-requires
add-requires c =
    let follows = rw c.in_ok-lexeme.was at c.in-Some.ensures.steps.1 in
    named _ _ _ _ follows.1.0

pub returns-in_err-add-clause-spelled : goal.returns-in_err-add-clause-spelled
returns-in_err-add-clause-spelled c =
    let found = rw c.loop-lexeme.invariant.2 at c.in-Some.ensures.steps.1 in
    let follows = rw c.in_ok-lexeme.was at found in
    let error = err_from_is_err_and c.from_residual-in_err-add.result c.from_residual-in_err-add.ensures.1 in
    rw (error.1, error.2) (c.in_err-add.ensures.builds _ _ _ c.loop-lexeme.invariant.3 follows)

pub returns-clause-spelled : goal.returns-clause-spelled
returns-clause-spelled c =
    let left = rw c.loop-lexeme.invariant.2 at c.in-None.ensures.steps.1 in
    MatchResult-weaker c.finish.result (c.finish.ensures.tokens _ c.loop-lexeme.invariant.3.3)
    (λ stream same. builds_spelled _ c.loop-lexeme.trees _ c.loop-lexeme.invariant.3 left stream same) (λ error within. within)

pub returns-clause-visible : goal.returns-clause-visible
returns-clause-visible c =
    let left = rw c.loop-lexeme.invariant.2 at c.in-None.ensures.steps.1 in
    MatchResult-weaker c.finish.result (c.finish.ensures.tokens _ c.loop-lexeme.invariant.3.3)
    (λ stream same. spells_visible _ _ (builds_spelled _ c.loop-lexeme.trees _ c.loop-lexeme.invariant.3 left stream same)) (λ error within. tt)

pub returns-in_err-add-clause-fault : goal.returns-in_err-add-clause-fault
returns-in_err-add-clause-fault c =
    let found = rw c.loop-lexeme.invariant.2 at c.in-Some.ensures.steps.1 in
    let follows = rw c.in_ok-lexeme.was at found in
    let error = err_from_is_err_and c.from_residual-in_err-add.result c.from_residual-in_err-add.ensures.1 in
    rw (error.1, error.2) (c.in_err-add.ensures.fault _ _ _ c.loop-lexeme.invariant.3 follows)

pub returns-in_err-lexeme-clause-spelled : goal.returns-in_err-lexeme-clause-spelled
returns-in_err-lexeme-clause-spelled c =
    let found = rw c.loop-lexeme.invariant.2 at c.in-Some.ensures.steps.1 in
    let follows = rw c.in_err-lexeme.was at found in
    let error = err_from_is_err_and c.from_residual-in_err-lexeme.result c.from_residual-in_err-lexeme.ensures.1 in
    rw (error.1, error.2) (lexical_within _ _ _ follows)

pub returns-in_err-lexeme-clause-fault : goal.returns-in_err-lexeme-clause-fault
returns-in_err-lexeme-clause-fault c =
    let found = rw c.loop-lexeme.invariant.2 at c.in-Some.ensures.steps.1 in
    let follows = rw c.in_err-lexeme.was at found in
    let error = err_from_is_err_and c.from_residual-in_err-lexeme.result c.from_residual-in_err-lexeme.ensures.1 in
    rw (error.1, error.2) (lexical_refusal _ c.loop-lexeme.trees _ _ c.loop-lexeme.invariant.3 follows)

pub returns-clause-fault : goal.returns-clause-fault
returns-clause-fault c =
    let left = rw c.loop-lexeme.invariant.2 at c.in-None.ensures.steps.1 in
    IfErr-weaker c.finish.result _ _ (λ e. open_refusal _ c.loop-lexeme.trees _ e c.loop-lexeme.invariant.3 left) c.finish.ensures.fault
