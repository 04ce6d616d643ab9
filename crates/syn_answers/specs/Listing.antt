-- WHAT `list_items` PROMISES, and the readings it is composed of, of any error type with its refusals.
use Rattle.std.specs.Prelude.{◌≡◌, ◌≢◌, Bool, true, false, List, [], ◌∷◌, Option, Some, None, Result, Ok, Err}
use Rattle.syn_grammar.specs.Tokens.{Stream, ident}
use Rattle.syn_grammar.specs.Rules as rules
use Rattle.syn_grammar.specs.Rules.{Rule}
use Rattle.syn_grammar.specs.Grammar.{Syntax}
use Rattle.syn_grammar.specs.Listed as grammar
use Rattle.syn_grammar.specs.Listed.{Name, Listed, name_ahead}
use Rattle.syn_grammar.specs.Run.{parse_rule}
use Rattle.syn_tokens.specs.Idents.{IdentValue}
use Rattle.syn_tokens.specs.Spans.{at}
use Rattle.syn_tokens.specs.declared.stream.cursor.TokenTreeRef.{TokenTreeRef}
use Rattle.syn_tokens.specs.declared.stream.cursor.TokenTreeRef.TheVariants as N
use Rattle.syn_answers.specs.declared.list.ItemKind.{ItemKind}
use Rattle.syn_answers.specs.declared.list.ItemKind.TheVariants as K
use Rattle.syn_answers.specs.declared.list.ListedItem.{ListedItem}
use Rattle.syn_answers.specs.declared.names.Marker.{Marker}
use Rattle.syn_answers.specs.declared.names.Marker.TheVariants as M

-- KINDS AND NAMES

-- Written by tools/kinds.py down to the next such comment; edits are lost.
-- the rule that reads items of this kind
abbrev pub rule_of : ItemKind → Rule
rule_of K.Const = rules.const_item
rule_of K.Enum = rules.enumeration
rule_of K.ExternCrate = rules.extern_crate
rule_of K.Fn = rules.function
rule_of K.ForeignMod = rules.foreign_module
rule_of K.Impl = rules.impl_definition
rule_of K.Macro = rules.macro_as_item
rule_of K.Mod = rules.module_item
rule_of K.Static = rules.static_item
rule_of K.Struct = rules.structure
rule_of K.Trait = rules.trait_definition
rule_of K.TraitAlias = rules.trait_alias
rule_of K.Ty = rules.type_item
rule_of K.Union = rules.union_item
rule_of K.Use = rules.use_item
rule_of K.Verbatim = rules.kept_item

-- End of the part that tools/kinds.py writes.

-- an identifier as a name
abbrev pub name_of : Option IdentValue → Option Name
name_of (Some i) = Some (i.text, at i.span)
name_of None = None

-- the kind and name that an entry of the list gives for an item
abbrev pub entry_of : ListedItem → Listed
entry_of i = (rule_of i.kind, name_of i.name)

-- READINGS

-- an item of this kind was read, or there is none and nothing was read; nothing is promised of verbatim items
abbrev pub KindTried : {E : Type 0} → (E → Type 0) → ItemKind → Stream → Result Bool E → Stream → Type 0
KindTried refusal kind old (Ok true) new = (s : Syntax) × (parse_rule (rule_of kind) old ≡ Some (s, new))
KindTried refusal kind old (Ok false) new = (kind ≢ K.Verbatim → parse_rule (rule_of kind) old ≡ None) × (new ≡ old)
KindTried refusal kind old (Err e) new = refusal e → ⊥

-- these kinds read nothing
abbrev pub NoneOf : List ItemKind → Stream → Type 0
NoneOf [] ts = Unit {0}
NoneOf (k ∷ ks) ts = (parse_rule (rule_of k) ts ≡ None) × NoneOf ks ts

-- an item was read as some kind; or it is of none of these, and nothing was read
abbrev pub KindsTried : {E : Type 0} → (E → Type 0) → List ItemKind → Stream → Result (Option ItemKind) E → Stream → Type 0
KindsTried refusal kinds old (Ok (Some kind)) new = (s : Syntax) × (parse_rule (rule_of kind) old ≡ Some (s, new))
KindsTried refusal kinds old (Ok None) new = NoneOf kinds old × (new ≡ old)
KindsTried refusal kinds old (Err e) new = refusal e → ⊥

-- an item of this kind was read, or no item is
abbrev pub KindRead : {E : Type 0} → (E → Type 0) → Stream → Result ItemKind E → Stream → Type 0
KindRead refusal old (Ok kind) new = (s : Syntax) × (parse_rule (rule_of kind) old ≡ Some (s, new))
KindRead refusal old (Err e) new = refusal e → parse_rule rules.item old ≡ None

-- and its name is the one found ahead
abbrev pub ItemRead : {E : Type 0} → (E → Type 0) → Stream → Result ListedItem E → Stream → Type 0
ItemRead refusal old (Ok item) new = (s : Syntax) × (parse_rule (rule_of item.kind) old ≡ Some (s, new)) × (name_of item.name ≡ name_ahead (rule_of item.kind) old)
ItemRead refusal old (Err e) new = refusal e → parse_rule rules.item old ≡ None

-- MARKERS

abbrev pub marker_of : Marker → grammar.Marker
marker_of (M.Word text) = grammar.a_word text.now
marker_of M.Bang = grammar.a_bang

-- the tree is the marker
abbrev pub marks : grammar.Marker → TokenTreeRef → Bool
marks m (N.Ident i) = grammar.marks_leaf m (ident i.text)
marks m (N.Literal l) = false
marks m (N.Punct p) = grammar.marks_char m p.character
marks m (N.Group g) = false
