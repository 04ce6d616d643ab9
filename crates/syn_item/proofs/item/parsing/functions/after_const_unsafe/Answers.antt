use Rattle.std.proofs.Common.{◌≡◌, true, false, [], ◌∷◌, None, Some, refl, sym, ap, ◌∙◌, rules}
use Rattle.syn_grammar.specs.Words.{w_auto, w_const, w_impl, w_trait, w_unsafe}
use Rattle.syn_grammar.specs.Tokens.{Stream, and, at_word, or}
use Rattle.syn_grammar.specs.Rules.{Rule, kept_item}
use Rattle.syn_grammar.specs.Grammar.{Syntax, Nothing, Left, word}
use Rattle.syn_grammar.specs.Table.{optional_item_word}
use Rattle.syn_grammar.specs.ItemPlan.{Place, following_const}
use Rattle.syn_grammar.specs.Plan.{run_plan}
use Rattle.syn_grammar.specs.Take.{Out, sees, take_token}
use Rattle.syn_grammar.specs.Run.{branch, parse_form, wrap}
use Rattle.syn_grammar.proofs.PlanSteps.{Event, happened, left_over, refused_there, took, went}
use Rattle.syn_grammar.proofs.Sets.{and_left, and_right}
use Rattle.syn_parse.specs.Peeks.{past}
use Rattle.syn_tokens.specs.Kinds.{const_syntax, unsafe_syntax}
use Rattle.syn_tokens.specs.Leaves.{maybe}
use Rattle.syn_lower.specs.Attributes.{attributes_syntax}
use Rattle.syn_lower.specs.Parsing.{IsSyntax}
use Rattle.syn_tree.specs.Restriction.{syntax_of_Visibility}
use Rattle.syn_item.specs.Items.{syntax_of_Item}
use Rattle.syn_item.specs.ItemStages.{place_of}
use Rattle.syn_item.specs.ItemTurns.{const_turn}
use Rattle.syn_item.specs.Planned.{Follows}
use Rattle.syn_item.proofs.ConstPlans.{unsafe_function_follows, unsafe_impl_follows, unsafe_trait_follows}
use Rattle.syn_item.proofs.ItemWords.{ReadWord, word_known}
use Rattle.syn_item.proofs.MemberFunctions.{past_word}
use Rattle.std.specs.Prelude.{Err}
use Rattle.syn_item.proofs.Followed.{refused_by}
use Rattle.syn_item.proofs.item.parsing.functions.after_const_unsafe.Goals as goal

-- a word that is next and isn't read where it may be absent is no token
no_token : (o : Out) → wrap Left o ≡ None → o ≡ None
no_token None h = refl
no_token (Some q) h = absurd (cc (sym h))

-- nothing is read where `unsafe` isn't
unsafe_refused : (k : Rule) (ts : Stream) (p : Place) (a v : Syntax) (m : Stream) → and (sees (at_word w_const) m) (sees (at_word w_unsafe) (past m)) ≡ true → (c : Syntax) (r : Stream) → parse_form (optional_item_word w_const) m ≡ Some (c, r) →
    parse_form (optional_item_word w_unsafe) r ≡ None → run_plan (const_turn p a v) k ts m ≡ None
unfolding following_const
unsafe_refused k ts p a v m next c r read none =
    let (x, q, e) = word_known w_const m c r (and_left (sees (at_word w_const) m) _ next) read in
    let s : sees (at_word w_unsafe) r ≡ true = ap (sees (at_word w_unsafe)) (sym (past_word w_const m (x, r) e)) ∙ and_right (sees (at_word w_const) m) _ next in
    let missed : take_token (word w_unsafe) r ≡ None = no_token (take_token (word w_unsafe) r) (sym (ap (λ b. branch b (take_token (word w_unsafe) r) (Some (Nothing, r))) s) ∙ none) in
    happened k ts (took x r ∷ went true ∷ []) (const_turn p a v) m (e, (s, tt)) ∙ refused_there k ts (left_over (took x r ∷ went true ∷ []) (const_turn p a v)) r missed

pub returns-in_err-unsafety : goal.returns-in_err-unsafety
returns-in_err-unsafety c =
    let a = attributes_syntax c.args.begun.attrs.items in
    let v = syntax_of_Visibility c.args.begun.vis in
    let m = c.args.input.now in
    let p = place_of c.args.begun.place in
    let next : and (sees (at_word w_const) m) (sees (at_word w_unsafe) (past m)) ≡ true = c.requires.next in
    let k = maybe const_syntax c.in_ok-constness.constness in
    let r = c.read.new.self in
    let const_read : parse_form (optional_item_word w_const) m ≡ Some (k, r) = search rules in
    let refused : (ts : Stream) → parse_form (optional_item_word w_unsafe) r ≡ None → run_plan (const_turn p a v) kept_item ts m ≡ None = λ ts e. unsafe_refused kept_item ts p a v m next k r const_read e in
    let fault : c.from_residual-in_err-unsafety.result ≡ Err c.in_err-unsafety.field-0.0 = search rules in
    record { follows = λ ts. refused_by IsSyntax syntax_of_Item kept_item ts (run_plan (const_turn p a v) kept_item ts m) c.from_residual-in_err-unsafety.result c.read-then-is_before_unsafe_trait.new.self c.in_err-unsafety.field-0.0 fault (λ h. refused ts (c.in_err-unsafety.ensures.reads h)) }

pub returns-then-is_before_unsafe_trait : goal.returns-then-is_before_unsafe_trait
returns-then-is_before_unsafe_trait c =
    let a = attributes_syntax c.args.begun.attrs.items in
    let v = syntax_of_Visibility c.args.begun.vis in
    let m = c.args.input.now in
    let p = place_of c.args.begun.place in
    let next : and (sees (at_word w_const) m) (sees (at_word w_unsafe) (past m)) ≡ true = c.requires.next in
    let k = maybe const_syntax c.in_ok-constness.constness in
    let r = c.read.new.self in
    let const_read : parse_form (optional_item_word w_const) m ≡ Some (k, r) = search rules in
    let u = maybe unsafe_syntax c.in_ok-unsafety.unsafety in
    let n = c.read-then-is_before_unsafe_trait.new.self in
    let unsafe_read : parse_form (optional_item_word w_unsafe) r ≡ Some (u, n) = search rules in
    let here : or (sees (at_word w_trait) (past (past m))) (sees (at_word w_auto) (past (past m))) ≡ true = search rules in
    let follows : (ts : Stream) → Follows IsSyntax syntax_of_Item kept_item ts (run_plan (const_turn p a v) kept_item ts m) c.trait_after.result c.trait_after.new.input =
    λ ts. unsafe_trait_follows kept_item ts p a v m next IsSyntax syntax_of_Item c.trait_after.result c.trait_after.new.input k r const_read u n unsafe_read here (c.trait_after.ensures.follows ts) in
    search (rules, follows)

pub returns-in_err-unsafety-2 : goal.returns-in_err-unsafety-2
returns-in_err-unsafety-2 c =
    let a = attributes_syntax c.args.begun.attrs.items in
    let v = syntax_of_Visibility c.args.begun.vis in
    let m = c.args.input.now in
    let p = place_of c.args.begun.place in
    let next : and (sees (at_word w_const) m) (sees (at_word w_unsafe) (past m)) ≡ true = c.requires.next in
    let k = maybe const_syntax c.in_ok-constness-2.constness in
    let r = c.read-then-peek3.new.self in
    let const_read : parse_form (optional_item_word w_const) m ≡ Some (k, r) = search rules in
    let refused : (ts : Stream) → parse_form (optional_item_word w_unsafe) r ≡ None → run_plan (const_turn p a v) kept_item ts m ≡ None = λ ts e. unsafe_refused kept_item ts p a v m next k r const_read e in
    let fault : c.from_residual-in_err-unsafety-2.result ≡ Err c.in_err-unsafety-2.field-0.0 = search rules in
    record { follows = λ ts. refused_by IsSyntax syntax_of_Item kept_item ts (run_plan (const_turn p a v) kept_item ts m) c.from_residual-in_err-unsafety-2.result c.read-then-peek3-2.new.self c.in_err-unsafety-2.field-0.0 fault (λ h. refused ts (c.in_err-unsafety-2.ensures.reads h)) }

pub returns-then-peek3 : goal.returns-then-peek3
returns-then-peek3 c =
    let a = attributes_syntax c.args.begun.attrs.items in
    let v = syntax_of_Visibility c.args.begun.vis in
    let m = c.args.input.now in
    let p = place_of c.args.begun.place in
    let next : and (sees (at_word w_const) m) (sees (at_word w_unsafe) (past m)) ≡ true = c.requires.next in
    let k = maybe const_syntax c.in_ok-constness-2.constness in
    let r = c.read-then-peek3.new.self in
    let const_read : parse_form (optional_item_word w_const) m ≡ Some (k, r) = search rules in
    let u = maybe unsafe_syntax c.in_ok-unsafety-2.unsafety in
    let n = c.read-then-peek3-2.new.self in
    let unsafe_read : parse_form (optional_item_word w_unsafe) r ≡ Some (u, n) = search rules in
    let no_trait : or (sees (at_word w_trait) (past (past m))) (sees (at_word w_auto) (past (past m))) ≡ false = search rules in
    let here : sees (at_word w_impl) (past (past m)) ≡ true = search rules in
    let follows : (ts : Stream) → Follows IsSyntax syntax_of_Item kept_item ts (run_plan (const_turn p a v) kept_item ts m) c.const_impl.result c.const_impl.new.input =
    λ ts. unsafe_impl_follows kept_item ts p a v m next IsSyntax syntax_of_Item c.const_impl.result c.const_impl.new.input k r const_read u n unsafe_read no_trait here (c.const_impl.ensures.follows ts) in
    search (rules, follows)

pub returns : goal.returns
returns c =
    let a = attributes_syntax c.args.begun.attrs.items in
    let v = syntax_of_Visibility c.args.begun.vis in
    let m = c.args.input.now in
    let p = place_of c.args.begun.place in
    let next : and (sees (at_word w_const) m) (sees (at_word w_unsafe) (past m)) ≡ true = c.requires.next in
    let no_trait : or (sees (at_word w_trait) (past (past m))) (sees (at_word w_auto) (past (past m))) ≡ false = search rules in
    let no_impl : sees (at_word w_impl) (past (past m)) ≡ false = search rules in
    let follows : (ts : Stream) → Follows IsSyntax syntax_of_Item kept_item ts (run_plan (const_turn p a v) kept_item ts m) c.function_or_kept.result c.function_or_kept.new.input =
    λ ts. unsafe_function_follows kept_item ts p a v m next IsSyntax syntax_of_Item c.function_or_kept.result c.function_or_kept.new.input no_trait no_impl (c.function_or_kept.ensures.follows ts) in
    search (rules, follows)
