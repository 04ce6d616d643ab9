-- Written by tools/tokens.py; edits are lost.
-- Words as types and as syntax.
use Rattle.syn_grammar.specs.Words.{w_const, w_crate, w_enum, w_extern, w_fn, w_impl, w_in, w_mod, w_pub, w_Self_type, w_self, w_static, w_struct, w_super, w_trait, w_type, w_unsafe, w_use, w_where, w_as, w_async, w_await, w_break, w_continue, w_dyn, w_else, w_false, w_for, w_if, w_let, w_loop, w_match, w_move, w_mut, w_ref, w_return, w_true, w_underscore, w_while, w_abstract, w_auto, w_become, w_box, w_default, w_do, w_final, w_macro, w_override, w_priv, w_safe, w_try, w_typeof, w_union, w_unsized, w_virtual, w_yield}
use Rattle.syn_grammar.specs.Grammar.{Syntax}
use Rattle.syn_tokens.specs.Leaves.{syntax_of_word}
use Rattle.syn_tokens.specs.declared.token.word.Word.{Word}
use Rattle.syn_tokens.specs.declared.token.kind.declarations.Const.{Const as K_Const}
use Rattle.syn_tokens.specs.declared.token.kind.declarations.Crate.{Crate as K_Crate}
use Rattle.syn_tokens.specs.declared.token.kind.declarations.Enum.{Enum as K_Enum}
use Rattle.syn_tokens.specs.declared.token.kind.declarations.Extern.{Extern as K_Extern}
use Rattle.syn_tokens.specs.declared.token.kind.declarations.Fn.{Fn as K_Fn}
use Rattle.syn_tokens.specs.declared.token.kind.declarations.Impl.{Impl as K_Impl}
use Rattle.syn_tokens.specs.declared.token.kind.declarations.In.{In as K_In}
use Rattle.syn_tokens.specs.declared.token.kind.declarations.Mod.{Mod as K_Mod}
use Rattle.syn_tokens.specs.declared.token.kind.declarations.Pub.{Pub as K_Pub}
use Rattle.syn_tokens.specs.declared.token.kind.declarations.SelfType.{SelfType as K_SelfType}
use Rattle.syn_tokens.specs.declared.token.kind.declarations.SelfValue.{SelfValue as K_SelfValue}
use Rattle.syn_tokens.specs.declared.token.kind.declarations.Static.{Static as K_Static}
use Rattle.syn_tokens.specs.declared.token.kind.declarations.Struct.{Struct as K_Struct}
use Rattle.syn_tokens.specs.declared.token.kind.declarations.Super.{Super as K_Super}
use Rattle.syn_tokens.specs.declared.token.kind.declarations.Trait.{Trait as K_Trait}
use Rattle.syn_tokens.specs.declared.token.kind.declarations.«Type».{«Type» as K_Type}
use Rattle.syn_tokens.specs.declared.token.kind.declarations.Unsafe.{Unsafe as K_Unsafe}
use Rattle.syn_tokens.specs.declared.token.kind.declarations.Use.{Use as K_Use}
use Rattle.syn_tokens.specs.declared.token.kind.declarations.Where.{Where as K_Where}
use Rattle.syn_tokens.specs.declared.token.kind.expressions.As.{As as K_As}
use Rattle.syn_tokens.specs.declared.token.kind.expressions.Async.{Async as K_Async}
use Rattle.syn_tokens.specs.declared.token.kind.expressions.Await.{Await as K_Await}
use Rattle.syn_tokens.specs.declared.token.kind.expressions.Break.{Break as K_Break}
use Rattle.syn_tokens.specs.declared.token.kind.expressions.Continue.{Continue as K_Continue}
use Rattle.syn_tokens.specs.declared.token.kind.expressions.Dyn.{Dyn as K_Dyn}
use Rattle.syn_tokens.specs.declared.token.kind.expressions.Else.{Else as K_Else}
use Rattle.syn_tokens.specs.declared.token.kind.expressions.False.{False as K_False}
use Rattle.syn_tokens.specs.declared.token.kind.expressions.For.{For as K_For}
use Rattle.syn_tokens.specs.declared.token.kind.expressions.If.{If as K_If}
use Rattle.syn_tokens.specs.declared.token.kind.expressions.Let.{Let as K_Let}
use Rattle.syn_tokens.specs.declared.token.kind.expressions.Loop.{Loop as K_Loop}
use Rattle.syn_tokens.specs.declared.token.kind.expressions.Match.{Match as K_Match}
use Rattle.syn_tokens.specs.declared.token.kind.expressions.Move.{Move as K_Move}
use Rattle.syn_tokens.specs.declared.token.kind.expressions.Mut.{Mut as K_Mut}
use Rattle.syn_tokens.specs.declared.token.kind.expressions.Ref.{Ref as K_Ref}
use Rattle.syn_tokens.specs.declared.token.kind.expressions.Return.{Return as K_Return}
use Rattle.syn_tokens.specs.declared.token.kind.expressions.True.{True as K_True}
use Rattle.syn_tokens.specs.declared.token.kind.expressions.Underscore.{Underscore as K_Underscore}
use Rattle.syn_tokens.specs.declared.token.kind.expressions.While.{While as K_While}
use Rattle.syn_tokens.specs.declared.token.kind.others.Abstract.{Abstract as K_Abstract}
use Rattle.syn_tokens.specs.declared.token.kind.others.Auto.{Auto as K_Auto}
use Rattle.syn_tokens.specs.declared.token.kind.others.Become.{Become as K_Become}
use Rattle.syn_tokens.specs.declared.token.kind.others.Box.{Box as K_Box}
use Rattle.syn_tokens.specs.declared.token.kind.others.Default.{Default as K_Default}
use Rattle.syn_tokens.specs.declared.token.kind.others.Do.{Do as K_Do}
use Rattle.syn_tokens.specs.declared.token.kind.others.Final.{Final as K_Final}
use Rattle.syn_tokens.specs.declared.token.kind.others.Macro.{Macro as K_Macro}
use Rattle.syn_tokens.specs.declared.token.kind.others.Override.{Override as K_Override}
use Rattle.syn_tokens.specs.declared.token.kind.others.Priv.{Priv as K_Priv}
use Rattle.syn_tokens.specs.declared.token.kind.others.Safe.{Safe as K_Safe}
use Rattle.syn_tokens.specs.declared.token.kind.others.Try.{Try as K_Try}
use Rattle.syn_tokens.specs.declared.token.kind.others.Typeof.{Typeof as K_Typeof}
use Rattle.syn_tokens.specs.declared.token.kind.others.Union.{Union as K_Union}
use Rattle.syn_tokens.specs.declared.token.kind.others.Unsized.{Unsized as K_Unsized}
use Rattle.syn_tokens.specs.declared.token.kind.others.Virtual.{Virtual as K_Virtual}
use Rattle.syn_tokens.specs.declared.token.kind.others.Yield.{Yield as K_Yield}

abbrev pub Const : Type 0
Const = Word K_Const

abbrev pub const_syntax : Const → Syntax
const_syntax w = syntax_of_word w_const w.span

abbrev pub Crate : Type 0
Crate = Word K_Crate

abbrev pub crate_syntax : Crate → Syntax
crate_syntax w = syntax_of_word w_crate w.span

abbrev pub Enum : Type 0
Enum = Word K_Enum

abbrev pub enum_syntax : Enum → Syntax
enum_syntax w = syntax_of_word w_enum w.span

abbrev pub Extern : Type 0
Extern = Word K_Extern

abbrev pub extern_syntax : Extern → Syntax
extern_syntax w = syntax_of_word w_extern w.span

abbrev pub Fn : Type 0
Fn = Word K_Fn

abbrev pub fn_syntax : Fn → Syntax
fn_syntax w = syntax_of_word w_fn w.span

abbrev pub Impl : Type 0
Impl = Word K_Impl

abbrev pub impl_syntax : Impl → Syntax
impl_syntax w = syntax_of_word w_impl w.span

abbrev pub In : Type 0
In = Word K_In

abbrev pub in_syntax : In → Syntax
in_syntax w = syntax_of_word w_in w.span

abbrev pub Mod : Type 0
Mod = Word K_Mod

abbrev pub mod_syntax : Mod → Syntax
mod_syntax w = syntax_of_word w_mod w.span

abbrev pub Pub : Type 0
Pub = Word K_Pub

abbrev pub pub_syntax : Pub → Syntax
pub_syntax w = syntax_of_word w_pub w.span

abbrev pub SelfType : Type 0
SelfType = Word K_SelfType

abbrev pub self_type_syntax : SelfType → Syntax
self_type_syntax w = syntax_of_word w_Self_type w.span

abbrev pub SelfValue : Type 0
SelfValue = Word K_SelfValue

abbrev pub self_value_syntax : SelfValue → Syntax
self_value_syntax w = syntax_of_word w_self w.span

abbrev pub Static : Type 0
Static = Word K_Static

abbrev pub static_syntax : Static → Syntax
static_syntax w = syntax_of_word w_static w.span

abbrev pub Struct : Type 0
Struct = Word K_Struct

abbrev pub struct_syntax : Struct → Syntax
struct_syntax w = syntax_of_word w_struct w.span

abbrev pub Super : Type 0
Super = Word K_Super

abbrev pub super_syntax : Super → Syntax
super_syntax w = syntax_of_word w_super w.span

abbrev pub Trait : Type 0
Trait = Word K_Trait

abbrev pub trait_syntax : Trait → Syntax
trait_syntax w = syntax_of_word w_trait w.span

abbrev pub «Type» : Type 0
«Type» = Word K_Type

abbrev pub type_syntax : «Type» → Syntax
type_syntax w = syntax_of_word w_type w.span

abbrev pub Unsafe : Type 0
Unsafe = Word K_Unsafe

abbrev pub unsafe_syntax : Unsafe → Syntax
unsafe_syntax w = syntax_of_word w_unsafe w.span

abbrev pub Use : Type 0
Use = Word K_Use

abbrev pub use_syntax : Use → Syntax
use_syntax w = syntax_of_word w_use w.span

abbrev pub Where : Type 0
Where = Word K_Where

abbrev pub where_syntax : Where → Syntax
where_syntax w = syntax_of_word w_where w.span

abbrev pub As : Type 0
As = Word K_As

abbrev pub as_syntax : As → Syntax
as_syntax w = syntax_of_word w_as w.span

abbrev pub Async : Type 0
Async = Word K_Async

abbrev pub async_syntax : Async → Syntax
async_syntax w = syntax_of_word w_async w.span

abbrev pub Await : Type 0
Await = Word K_Await

abbrev pub await_syntax : Await → Syntax
await_syntax w = syntax_of_word w_await w.span

abbrev pub Break : Type 0
Break = Word K_Break

abbrev pub break_syntax : Break → Syntax
break_syntax w = syntax_of_word w_break w.span

abbrev pub Continue : Type 0
Continue = Word K_Continue

abbrev pub continue_syntax : Continue → Syntax
continue_syntax w = syntax_of_word w_continue w.span

abbrev pub Dyn : Type 0
Dyn = Word K_Dyn

abbrev pub dyn_syntax : Dyn → Syntax
dyn_syntax w = syntax_of_word w_dyn w.span

abbrev pub Else : Type 0
Else = Word K_Else

abbrev pub else_syntax : Else → Syntax
else_syntax w = syntax_of_word w_else w.span

abbrev pub False : Type 0
False = Word K_False

abbrev pub false_syntax : False → Syntax
false_syntax w = syntax_of_word w_false w.span

abbrev pub For : Type 0
For = Word K_For

abbrev pub for_syntax : For → Syntax
for_syntax w = syntax_of_word w_for w.span

abbrev pub If : Type 0
If = Word K_If

abbrev pub if_syntax : If → Syntax
if_syntax w = syntax_of_word w_if w.span

abbrev pub Let : Type 0
Let = Word K_Let

abbrev pub let_syntax : Let → Syntax
let_syntax w = syntax_of_word w_let w.span

abbrev pub Loop : Type 0
Loop = Word K_Loop

abbrev pub loop_syntax : Loop → Syntax
loop_syntax w = syntax_of_word w_loop w.span

abbrev pub Match : Type 0
Match = Word K_Match

abbrev pub match_syntax : Match → Syntax
match_syntax w = syntax_of_word w_match w.span

abbrev pub Move : Type 0
Move = Word K_Move

abbrev pub move_syntax : Move → Syntax
move_syntax w = syntax_of_word w_move w.span

abbrev pub Mut : Type 0
Mut = Word K_Mut

abbrev pub mut_syntax : Mut → Syntax
mut_syntax w = syntax_of_word w_mut w.span

abbrev pub Ref : Type 0
Ref = Word K_Ref

abbrev pub ref_syntax : Ref → Syntax
ref_syntax w = syntax_of_word w_ref w.span

abbrev pub Return : Type 0
Return = Word K_Return

abbrev pub return_syntax : Return → Syntax
return_syntax w = syntax_of_word w_return w.span

abbrev pub True : Type 0
True = Word K_True

abbrev pub true_syntax : True → Syntax
true_syntax w = syntax_of_word w_true w.span

abbrev pub Underscore : Type 0
Underscore = Word K_Underscore

abbrev pub underscore_syntax : Underscore → Syntax
underscore_syntax w = syntax_of_word w_underscore w.span

abbrev pub While : Type 0
While = Word K_While

abbrev pub while_syntax : While → Syntax
while_syntax w = syntax_of_word w_while w.span

abbrev pub Abstract : Type 0
Abstract = Word K_Abstract

abbrev pub abstract_syntax : Abstract → Syntax
abstract_syntax w = syntax_of_word w_abstract w.span

abbrev pub Auto : Type 0
Auto = Word K_Auto

abbrev pub auto_syntax : Auto → Syntax
auto_syntax w = syntax_of_word w_auto w.span

abbrev pub Become : Type 0
Become = Word K_Become

abbrev pub become_syntax : Become → Syntax
become_syntax w = syntax_of_word w_become w.span

abbrev pub Box : Type 0
Box = Word K_Box

abbrev pub box_syntax : Box → Syntax
box_syntax w = syntax_of_word w_box w.span

abbrev pub Default : Type 0
Default = Word K_Default

abbrev pub default_syntax : Default → Syntax
default_syntax w = syntax_of_word w_default w.span

abbrev pub Do : Type 0
Do = Word K_Do

abbrev pub do_syntax : Do → Syntax
do_syntax w = syntax_of_word w_do w.span

abbrev pub Final : Type 0
Final = Word K_Final

abbrev pub final_syntax : Final → Syntax
final_syntax w = syntax_of_word w_final w.span

abbrev pub Macro : Type 0
Macro = Word K_Macro

abbrev pub macro_syntax : Macro → Syntax
macro_syntax w = syntax_of_word w_macro w.span

abbrev pub Override : Type 0
Override = Word K_Override

abbrev pub override_syntax : Override → Syntax
override_syntax w = syntax_of_word w_override w.span

abbrev pub Priv : Type 0
Priv = Word K_Priv

abbrev pub priv_syntax : Priv → Syntax
priv_syntax w = syntax_of_word w_priv w.span

abbrev pub Safe : Type 0
Safe = Word K_Safe

abbrev pub safe_syntax : Safe → Syntax
safe_syntax w = syntax_of_word w_safe w.span

abbrev pub Try : Type 0
Try = Word K_Try

abbrev pub try_syntax : Try → Syntax
try_syntax w = syntax_of_word w_try w.span

abbrev pub Typeof : Type 0
Typeof = Word K_Typeof

abbrev pub typeof_syntax : Typeof → Syntax
typeof_syntax w = syntax_of_word w_typeof w.span

abbrev pub Union : Type 0
Union = Word K_Union

abbrev pub union_syntax : Union → Syntax
union_syntax w = syntax_of_word w_union w.span

abbrev pub Unsized : Type 0
Unsized = Word K_Unsized

abbrev pub unsized_syntax : Unsized → Syntax
unsized_syntax w = syntax_of_word w_unsized w.span

abbrev pub Virtual : Type 0
Virtual = Word K_Virtual

abbrev pub virtual_syntax : Virtual → Syntax
virtual_syntax w = syntax_of_word w_virtual w.span

abbrev pub Yield : Type 0
Yield = Word K_Yield

abbrev pub yield_syntax : Yield → Syntax
yield_syntax w = syntax_of_word w_yield w.span
