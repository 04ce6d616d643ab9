use Rattle.std.proofs.Common.{rules, refl, ◌≡◌, ℕ, List, [], ◌∷◌, ap, ◌∙◌, chars}
use Rattle.syn_grammar.specs.Tokens.{ident, literal, Str}
use Rattle.syn_tokens.specs.Spans.{at}
use Rattle.syn_tokens.specs.Spelled.{word_is_identifier}
use Rattle.syn_tokens.specs.Idents.{IdentValue}
use Rattle.syn_tokens.specs.Literals.{LiteralValue, kind_of}
use Rattle.syn_reader.specs.Docs.{quoted}
use Rattle.syn_tokens.specs.Entries.{decode}
use Rattle.syn_tokens.specs.declared.stream.entry.Token.TheVariants as E
use Rattle.syn_reader.specs.Flat.{one, flat}
use Rattle.syn_reader.specs.Building.{AllWithin}
use Rattle.syn_reader.proofs.Groups.{six_joined, same_added, then_ok}
use Rattle.std.proofs.lemmas.Result.{IfErr-weaker}
use Rattle.syn_reader.proofs.Refusals.{closes_opened}
use Rattle.syn_reader.proofs.reader.trees.TreeBuilder.doc.Goals as goal

-- `doc` is an identifier
pub ident-requires : goal.ident-requires
ident-requires c = word_is_identifier _ refl

pub returns-clause-tokens : goal.returns-clause-tokens
returns-clause-tokens c =
    let text : c.as_str.result.now ≡ quoted (chars c.args.doc.now.text.now) = c.as_str.ensures.value ∙ c.in_ok-text.ensures in
    let first : c.in_ok-entry.entry ≡ E.Ident c.in_ok-name.name = search rules in
    let second : c.in_ok-entry-2.entry ≡ E.Literal c.in_ok-literal.literal = search rules in
    let name = same_added _ _ _ _ c.in_ok-push.ensures.tokens (ap (λ e. flat (decode (e ∷ []))) first ∙ ap (λ (i : IdentValue). one (ident i.text) (at i.span) ∷ []) c.in_ok-name.ensures) in
    let said = same_added _ _ _ _ c.in_ok-push-2.ensures.tokens
    (ap (λ e. flat (decode (e ∷ []))) second ∙ ap (λ (l : LiteralValue). one (literal (kind_of l.kind) l.text) (at l.span) ∷ []) c.in_ok-literal.ensures.ok
    ∙ ap (λ (x : List ℕ). one (literal Str x) (at c.args.span) ∷ []) text) in
    then_ok c.close.result _ _ c.close.ensures.tokens
    (λ last. six_joined _ _ _ _ _ _ _ _ _ _ _ _ _ c.in_ok-attribute_punct.ensures.tokens c.in_ok-open.ensures.tokens name c.in_ok-mark.ensures.tokens said last)

pub returns-clause-within : goal.returns-clause-within
returns-clause-within c = λ n within starts ends.
    let signed : AllWithin n c.attribute_punct.new.self.inner.open_groups = rw c.in_ok-attribute_punct.ensures.groups within in
    let opened = c.in_ok-open.ensures.within n signed starts ends in
    let name : AllWithin n c.push.new.self.inner.open_groups = rw c.in_ok-push.ensures.groups opened in
    let equals : AllWithin n c.mark.new.self.inner.open_groups = rw c.in_ok-mark.ensures.groups name in
    let literal : AllWithin n c.push-2.new.self.inner.open_groups = rw c.in_ok-push-2.ensures.groups equals in
    c.close.ensures.within n literal starts ends

pub returns-clause-memory : goal.returns-clause-memory
returns-clause-memory c =
    let opened = c.in_ok-open.ensures.innermost in
    let groups = c.in_ok-push-2.ensures.groups ∙ (c.in_ok-mark.ensures.groups ∙ (c.in_ok-push.ensures.groups ∙ opened.1)) in
    IfErr-weaker c.close.result _ _ (λ e. closes_opened _ c.args.span c.args.span c.push-2.new.self.inner _ e (opened.0, groups)) c.close.ensures.fault
