use Rattle.std.proofs.Common.{rules, ◌≡◌, [], ◌∷◌, sym, ap, ◌∙◌, append-nil}
use Rattle.syn_grammar.specs.Tokens.{ident, literal}
use Rattle.syn_tokens.specs.Spans.{at}
use Rattle.syn_tokens.specs.Delimiters.{delimiter_of}
use Rattle.syn_tokens.specs.Punct.{is_joint}
use Rattle.syn_tokens.specs.Idents.{IdentValue}
use Rattle.syn_tokens.specs.Literals.{LiteralValue, kind_of}
use Rattle.syn_tokens.specs.Entries.{decode}
use Rattle.syn_tokens.specs.declared.stream.entry.Token.TheVariants as E
use Rattle.syn_reader.specs.Flat.{one, flat}
use Rattle.syn_reader.specs.Spelling.{Piece, word, constant, mark, opening, closing, comment, doc, IsPieceAt}
use Rattle.syn_reader.proofs.Groups.{piece_starts, piece_ends, same_added, builds_more, builds_or_fault}
use Rattle.std.proofs.lemmas.Result.{IfErr-weaker}
use Rattle.syn_reader.proofs.Refusals.{closing_refusal, memory_refusal}
use Rattle.syn_reader.proofs.reader.trees.TreeBuilder.add.Goals as goal

pub returns-in_ok-open-in-Open-clause-builds : goal.returns-in_ok-open-in-Open-clause-builds
returns-in_ok-open-in-Open-clause-builds c = λ text i j builds follows.
    let f = rw c.in-Open.is at follows in
    let p : Piece = opening (delimiter_of c.in-Open.delimiter) in
    builds_more text c.args.self.now c.open.new.self i j p (at c.in-Open.span) builds f.0 f.1.0 f.1.2 c.in_ok-open-in-Open.ensures.tokens
    (c.in_ok-open-in-Open.ensures.within _ builds.3 (piece_starts text p _ j _ f.1.0 f.1.2) (piece_ends text p _ j _ f.1.0 f.1.2))

pub returns-in-Close-clause-builds : goal.returns-in-Close-clause-builds
returns-in-Close-clause-builds c = λ text i j builds follows.
    let f = rw c.in-Close.is at follows in
    let p : Piece = closing (delimiter_of c.in-Close.delimiter) in
    builds_or_fault c.close.result text c.args.self.now c.close.new.self i j p (at c.in-Close.span) builds f.0 f.1.0 f.1.2 c.close.ensures.tokens
    (c.close.ensures.within _ builds.3 (piece_starts text p _ j _ f.1.0 f.1.2) (piece_ends text p _ j _ f.1.0 f.1.2))

pub returns-in-Close-clause-fault : goal.returns-in-Close-clause-fault
returns-in-Close-clause-fault c = λ text i j builds follows.
    let f = rw c.in-Close.is at follows in
    IfErr-weaker c.close.result _ _ (λ e. closing_refusal text c.args.self.now i j c.in-Close.delimiter c.in-Close.span e builds f.0 f.1.0 f.1.2) c.close.ensures.fault

pub returns-in_ok-push-in-Ident-clause-builds : goal.returns-in_ok-push-in-Ident-clause-builds
returns-in_ok-push-in-Ident-clause-builds c = λ text i j builds follows.
    let f = rw c.in-Ident.is at follows in
    let kept : c.in_ok-entry-in-Ident.entry ≡ E.Ident c.in_ok-ident-in-Ident.ident = search rules in
    builds_more text c.args.self.now c.push.new.self i j (word c.in-Ident.text.now) (at c.in-Ident.span) builds f.0 f.1.0 f.1.2
    (same_added _ _ _ _ c.in_ok-push-in-Ident.ensures.tokens (ap (λ e. flat (decode (e ∷ []))) kept ∙ ap (λ (x : IdentValue). one (ident x.text) (at x.span) ∷ []) c.in_ok-ident-in-Ident.ensures))
    (rw c.in_ok-push-in-Ident.ensures.groups builds.3)

pub returns-in_ok-push-in-Literal-clause-builds : goal.returns-in_ok-push-in-Literal-clause-builds
returns-in_ok-push-in-Literal-clause-builds c = λ text i j builds follows.
    let f = rw c.in-Literal.is at follows in
    let kept : c.in_ok-entry-in-Literal.entry ≡ E.Literal c.in_ok-literal-in-Literal.literal = search rules in
    builds_more text c.args.self.now c.push-in-Literal.new.self i j (constant c.in-Literal.kind c.in-Literal.text.now) (at c.in-Literal.span) builds f.0 f.1.0 f.1.2
    (same_added _ _ _ _ c.in_ok-push-in-Literal.ensures.tokens
    (ap (λ e. flat (decode (e ∷ []))) kept ∙ ap (λ (x : LiteralValue). one (literal (kind_of x.kind) x.text) (at x.span) ∷ []) c.in_ok-literal-in-Literal.ensures.ok))
    (rw c.in_ok-push-in-Literal.ensures.groups builds.3)

pub returns-in_ok-push-in-Punct-clause-builds : goal.returns-in_ok-push-in-Punct-clause-builds
returns-in_ok-push-in-Punct-clause-builds c = λ text i j builds follows.
    let f = rw c.in-Punct.is at follows in
    let kept : c.in_ok-entry-in-Punct.entry ≡ E.Punct c.in-Punct.punct = search rules in
    builds_more text c.args.self.now c.push-in-Punct.new.self i j (mark c.in-Punct.punct.character (is_joint c.in-Punct.punct.spacing)) (at c.in-Punct.punct.span) builds f.0 f.1.0 f.1.2
    (same_added _ _ _ _ c.in_ok-push-in-Punct.ensures.tokens (ap (λ e. flat (decode (e ∷ []))) kept))
    (rw c.in_ok-push-in-Punct.ensures.groups builds.3)

pub returns-in-Some-clause-builds : goal.returns-in-Some-clause-builds
returns-in-Some-clause-builds c = λ text i j builds follows.
    let f = rw c.in-Comment.is at follows in
    let p : Piece = doc c.in-Comment.text.now c.in-Some.doc.inner c.in-Some.doc.text.now in
    let piece : IsPieceAt text p c.in-Comment.span.start j = (f.1.0.0, f.1.0.1, (f.1.0.2, c.in-Some.ensures)) in
    builds_or_fault c.doc.result text c.args.self.now c.doc.new.self i j p (at c.in-Comment.span) builds f.0 piece f.1.2 c.doc.ensures.tokens
    (c.doc.ensures.within _ builds.3 (piece_starts text p _ j _ piece f.1.2) (piece_ends text p _ j _ piece f.1.2))

pub returns-in-Some-clause-fault : goal.returns-in-Some-clause-fault
returns-in-Some-clause-fault c = λ text i j builds follows. IfErr-weaker c.doc.result _ _ (memory_refusal text) c.doc.ensures.memory

pub returns-in-None-clause-builds : goal.returns-in-None-clause-builds
returns-in-None-clause-builds c = λ text i j builds follows.
    let f = rw c.in-Comment.is at follows in
    builds_more text c.args.self.now c.args.self.now i j (comment c.in-Comment.text.now) (at c.in-Comment.span) builds f.0 (f.1.0.0, f.1.0.1, (f.1.0.2, c.in-None.ensures)) f.1.2 (sym (append-nil _)) builds.3
