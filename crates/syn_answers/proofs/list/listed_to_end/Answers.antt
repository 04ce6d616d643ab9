use Rattle.std.proofs.Common.{◌≡◌, false, refl, sym, rules}
use Rattle.syn_grammar.specs.Promises.{Refused}
use Rattle.syn_grammar.specs.Take.{sees}
use Rattle.syn_grammar.specs.Tokens.{ended}
use Rattle.syn_grammar.specs.Rules.{file}
use Rattle.syn_answers.proofs.Listing.{begun, unbegun, gone_on, item_less, refused, same_err}
use Rattle.syn_answers.proofs.list.listed_to_end.Goals as goal
use Rattle.syn_recognize.specs.Names as names

pub returns-in_err-read_by-clause-refused : goal.returns-in_err-read_by-clause-refused
unfolding names.rule_of
returns-in_err-read_by-clause-refused c =
    same_err c.from_residual.result c.in_err-read_by.field-0.0 (Refused file c.args.tokens.now) c.from_residual.ensures.1 (λ s. unbegun c.args.tokens.now c.new-input.result c.new-input.ensures (c.in_err-read_by.ensures.reads s))

pub items-init : goal.items-init
unfolding names.rule_of
items-init c = begun c.args.tokens.now c.new-input.result _ c.new-list.result.items c.new-input.ensures c.new-list.ensures.items c.in_ok-read_by.ensures.reads

pub returns-in_err-item-clause-refused : goal.returns-in_err-item-clause-refused
returns-in_err-item-clause-refused c =
    let more : sees ended c.items.input ≡ false = search rules in
    same_err c.from_residual-in_err-item.result c.in_err-item.field-0.0 (Refused file c.args.tokens.now) c.from_residual-in_err-item.ensures.1
    (λ s. refused c.args.tokens.now c.items.list.items c.items.input false c.items.invariant (sym more) refl (c.in_err-item.ensures.read s))

pub items-preserved : goal.items-preserved
items-preserved c =
    let more : sees ended c.items.input ≡ false = search rules in
    gone_on c.args.tokens.now c.items.list.items _ c.items.input c.in_ok-item.item _ false c.items.invariant (sym more) refl c.in_ok-item.ensures.read c.in_ok-push.ensures.items

pub items-smaller : goal.items-smaller
items-smaller c =
    let (s, read, named) = c.in_ok-item.ensures.read in
    item_less c.in_ok-item.item.kind s c.items.input c.read_item.new.input read
