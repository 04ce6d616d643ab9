-- Written by tools/recognizers.py; edits are lost.
-- The courses of unions write what their plans write.
use Rattle.std.proofs.Common.{Bool, true, false, [], ◌∷◌, refl}
use Rattle.syn_grammar.specs.Tokens.{Stream, end}
use Rattle.syn_grammar.specs.Rules.{impl_definition, type_item}
use Rattle.syn_grammar.specs.Grammar.{Left, Node, Such}
use Rattle.syn_grammar.specs.Values.{untag}
use Rattle.syn_grammar.specs.ItemPlan.{abi_and_signature, after_visibility, bare_impl_plan, const_impl_plan, const_plan, const_trait_or_alias, definition_plan, enum_plan, extern_crate_plan, extern_plan, following_const, function_end, impl_generics, impl_plan, impl_types, item_after, item_plan, kept_end, kept_impl, macro_plan, module_plan, other_plan, restricted_end, signature_end, static_plan, struct_plan, trait_end, trait_or_alias, trait_plan, type_plan, union_plan, unsafe_plan, use_plan, visible_impl, parts, absent, hidden, inherited, item_of}
use Rattle.syn_grammar.specs.MemberPlans.{foreign_function_end, foreign_item_plan, foreign_macro_plan, foreign_member_plan, foreign_static_plan, foreign_type_plan, function_after_const, impl_const_or_function, impl_const_plan, impl_function_end, impl_item_plan, impl_macro_plan, impl_member_plan, impl_type_plan, kept_const, kept_function, marked_plan, safety_plan, trait_const_plan, trait_function_end, trait_item_plan}
use Rattle.syn_grammar.specs.StatementPlans.{crate_macro_plan, crate_statement_end}
use Rattle.syn_grammar.specs.SmallPlans.{derive_input_plan}
use Rattle.syn_grammar.specs.AlonePlans.{impl_alone, plain_types, type_alone, use_alone}
use Rattle.syn_recognize.specs.Stages.{planned_course}
use Rattle.syn_recognize.specs.declared.plan.Planned.TheVariants as Planned-m
use Rattle.syn_recognize.proofs.CourseProofs.{Goes, none, piece, untagged, both, text_after}
use Rattle.syn_recognize.proofs.ImplCourses.{item_impl_meets, alone_impl_meets, lone_text}
use Rattle.syn_recognize.proofs.SmallCourses.{rooted_meets, clause_meets, alone_clause_meets}

pub item_goes : (a : Bool) (m : Stream) → Goes a (planned_course Planned-m.Item) item_plan end m
unfolding abi_and_signature after_visibility bare_impl_plan const_impl_plan const_plan const_trait_or_alias definition_plan enum_plan extern_crate_plan extern_plan following_const function_end impl_generics impl_plan impl_types item_after item_plan kept_end kept_impl macro_plan module_plan other_plan restricted_end signature_end static_plan struct_plan trait_end trait_or_alias trait_plan type_plan union_plan unsafe_plan use_plan visible_impl
item_goes true m = (refl, λ x1 r1 e1. (refl, (λ s1. (refl, λ x2 r2 e2. (refl, (λ s3. (refl, (refl, λ x3 r3 e3. (refl, (refl, λ x4 r4 e4. (refl, (refl, λ x5 r5 e5. (refl, (refl, λ x6 r6 e6. (refl, text_after true end (both (piece x1) (both (piece x2) (both (piece x3) (both (piece x4) (both (piece x5) (piece x6))))))))))))))), λ s4. (refl, (λ s5. (refl, (refl, λ x7 r7 e7. (refl, (refl, λ x8 r8 e8. (refl, (refl, λ x9 r9 e9. (refl, (refl, λ x10 r10 e10. (refl, (refl, λ x11 r11 e11. (refl, text_after true end (both (piece x1) (both (piece x2) (both (piece x7) (both (piece x8) (both (piece x9) (both (piece x10) (piece x11)))))))))))))))))), λ s6. (refl, (λ s7. (refl, (refl, λ x12 r12 e12. (refl, (refl, λ x13 r13 e13. (refl, (refl, λ x14 r14 e14. (refl, (refl, λ x15 r15 e15. (refl, (refl, λ x16 r16 e16. (refl, text_after true end (both (piece x1) (both (piece x2) (both (piece x12) (both (piece x13) (both (piece x14) (both (piece x15) (piece x16)))))))))))))))))), λ s8. (refl, (λ s9. (refl, λ x17 r17 e17. (refl, λ x18 r18 e18. (refl, λ x19 r19 e19. (refl, (λ s11. (refl, (refl, λ x20. (refl, (refl, λ x21. (refl, (refl, λ x22. (refl, (refl, λ x23. refl)))))))), λ s12. clause_meets true (λ x24 x25 x26 x27 x28. (item_of type_item x1 (parts (x2 ∷ hidden ∷ x17 ∷ x18 ∷ x19 ∷ hidden ∷ Such (parts (x24 ∷ x25 ∷ x26 ∷ x27 ∷ [])) ∷ x28 ∷ [])))) _ r19 (λ x24 x25 x26 x27 x28. text_after true end (both (piece x1) (both (piece x2) (both none (both (piece x17) (both (piece x18) (both (piece x19) (both none (both (both (piece x24) (both (piece x25) (both (piece x26) (piece x27)))) (piece x28))))))))))))))), λ s10. (refl, (λ s13. (refl, λ x30 r30 e30. (refl, λ x31 r31 e31. (refl, λ x32 r32 e32. (refl, (λ s15. (refl, λ x33 r33 e33. (refl, λ x34 r34 e34. (refl, (λ s17. (refl, (refl, λ x35 r35 e35. (refl, (refl, λ x36 r36 e36. (refl, (refl, λ x37 r37 e37. (refl, text_after true end (both (piece x1) (both (piece x2) (both (piece x30) (both (piece x31) (both (piece x32) (both (piece x33) (both (piece x34) (both (piece x35) (both (piece x36) (piece x37))))))))))))))))), λ s18. (refl, (refl, λ x38. refl)))))), λ s16. (refl, (refl, λ x39. (refl, (refl, λ x40. (refl, (refl, λ x41. refl))))))))))), λ s14. (refl, (λ s19. (refl, λ x42 r42 e42. (refl, (λ s21. rooted_meets true _ _ _ _ _ r42 (λ x43 r43 e43. (refl, (refl, λ x44. refl))) (λ x43 r43 e43. (refl, (refl, λ x45 r45 e45. (refl, text_after true end (both (piece x1) (both (piece x2) (both (piece x42) (both (piece x43) (piece x45))))))))), λ s22. (refl, (refl, λ x46 r46 e46. (refl, (refl, λ x47 r47 e47. (refl, (refl, λ x48 r48 e48. (refl, text_after true end (both (piece x1) (both (piece x2) (both (piece x42) (both (both (piece x46) (piece x47)) (piece x48))))))))))))))), λ s20. (refl, (λ s23. (refl, (refl, λ x49 r49 e49. (refl, (refl, λ x50 r50 e50. (refl, (λ s25. (refl, (refl, λ x51 r51 e51. (refl, text_after true end (both (piece x1) (both (piece x2) (both none (both (piece x49) (both (piece x50) (piece x51))))))))), λ s26. (refl, (refl, λ x52 r52 e52. (refl, text_after true end (both (piece x1) (both (piece x2) (both none (both (piece x49) (both (piece x50) (both none (piece x52)))))))))))))))), λ s24. (refl, (λ s27. (refl, (refl, λ x53 r53 e53. (refl, (refl, λ x54 r54 e54. (refl, (refl, λ x55 r55 e55. (refl, (λ s29. (refl, (refl, λ x56 r56 e56. (refl, (refl, λ x57 r57 e57. (refl, (refl, λ x58 r58 e58. (refl, (refl, λ x59 r59 e59. (refl, text_after true end (both (piece x1) (both (piece x2) (both (piece x53) (both (piece x54) (both (piece x55) (both (piece x56) (both (piece x57) (both (piece x58) (piece x59)))))))))))))))))), λ s30. (refl, (refl, λ x60 r60 e60. (refl, (refl, λ x61 r61 e61. (refl, (refl, λ x62 r62 e62. (refl, text_after true end (both (piece x1) (both (piece x2) (both none (both none (both none (both (piece x53) (both (piece x54) (both (piece x55) (both (piece x60) (both (piece x61) (piece x62)))))))))))))))))))))))))), λ s28. (refl, (λ s31. (refl, (refl, λ x63 r63 e63. (refl, (refl, λ x64 r64 e64. (refl, (refl, λ x65 r65 e65. (refl, (refl, λ x66 r66 e66. (refl, (refl, λ x67 r67 e67. (refl, (refl, λ x68 r68 e68. (refl, (refl, λ x69 r69 e69. (refl, text_after true end (both (piece x1) (both (piece x2) (both none (both none (both (piece x63) (both (piece x64) (both (piece x65) (both (piece x66) (both (piece x67) (both (piece x68) (piece x69)))))))))))))))))))))))))), λ s32. (refl, (λ s33. (refl, (refl, λ x70. (refl, (refl, λ x71. (refl, (refl, λ x72. (refl, (refl, λ x73. refl)))))))), λ s34. (refl, (λ s35. (refl, λ x74 r74 e74. (refl, (λ s37. (refl, (refl, λ x75. refl)), λ s38. (refl, (refl, λ x76 r76 e76. (refl, text_after true end (both (piece x1) (both (piece x2) (both none (both (piece x74) (piece x76))))))))))), λ s36. (refl, (λ s39. (refl, λ x77 r77 e77. (refl, (λ s41. (refl, (refl, λ x78 r78 e78. (refl, (refl, λ x79 r79 e79. (refl, (refl, λ x80 r80 e80. (refl, (refl, λ x81 r81 e81. (refl, text_after true end (both (piece x1) (both (piece x2) (both (piece x77) (both (piece x78) (both (piece x79) (both (piece x80) (piece x81)))))))))))))))), λ s42. (refl, λ x82 r82 e82. (refl, λ x83 r83 e83. (refl, (λ s43. (refl, (refl, λ x84. refl)), λ s44. (refl, (refl, λ x85 r85 e85. (refl, text_after true end (both (piece x1) (both (piece x2) (both none (both (both none (both none (both none (both (both (piece x77) (piece x82)) (piece x83))))) (piece x85))))))))))))))), λ s40. (refl, (λ s45. (refl, λ x86 r86 e86. (refl, (λ s47. (refl, (refl, λ x87 r87 e87. (refl, (refl, λ x88 r88 e88. (refl, (λ s49. (refl, (refl, λ x89 r89 e89. (refl, text_after true end (both (piece x1) (both (piece x2) (both (piece x86) (both (piece x87) (both (piece x88) (piece x89))))))))), λ s50. (refl, (refl, λ x90 r90 e90. (refl, text_after true end (both (piece x1) (both (piece x2) (both (piece x86) (both (piece x87) (both (piece x88) (both none (piece x90)))))))))))))))), λ s48. (refl, (λ s51. (refl, (refl, λ x91 r91 e91. (refl, (refl, λ x92 r92 e92. (refl, (refl, λ x93 r93 e93. (refl, (refl, λ x94 r94 e94. (refl, (refl, λ x95 r95 e95. (refl, (refl, λ x96 r96 e96. (refl, (refl, λ x97 r97 e97. (refl, text_after true end (both (piece x1) (both (piece x2) (both none (both (piece x86) (both (piece x91) (both (piece x92) (both (piece x93) (both (piece x94) (both (piece x95) (both (piece x96) (piece x97)))))))))))))))))))))))))), λ s52. (refl, (λ s53. (refl, λ x98 r98 e98. (refl, λ x99 r99 e99. (refl, λ x100 r100 e100. (refl, (λ s55. (refl, (refl, λ x101. refl)), λ s56. (refl, (refl, λ x102 r102 e102. (refl, text_after true end (both (piece x1) (both (piece x2) (both none (both (both none (both none (both (untagged x86) (both (both (piece x98) (piece x99)) (piece x100))))) (piece x102))))))))))))), λ s54. (refl, λ x103 r103 e103. (refl, (λ s57. (refl, (refl, λ x104. refl)), λ s58. (refl, (refl, λ x105 r105 e105. (refl, text_after true end (both (piece x1) (both (piece x2) (both none (both (both none (both none (both (untagged x86) (both none (piece x103))))) (piece x105)))))))))))))))))), λ s46. (refl, (λ s59. (refl, λ x106 r106 e106. (refl, (λ s61. (refl, λ x107 r107 e107. (refl, (λ s63. (refl, (refl, λ x108 r108 e108. (refl, (refl, λ x109 r109 e109. (refl, (refl, λ x110 r110 e110. (refl, (refl, λ x111 r111 e111. (refl, (refl, λ x112 r112 e112. (refl, (refl, λ x113 r113 e113. (refl, (refl, λ x114 r114 e114. (refl, text_after true end (both (piece x1) (both (piece x2) (both (piece x106) (both (piece x107) (both (piece x108) (both (piece x109) (both (piece x110) (both (piece x111) (both (piece x112) (both (piece x113) (piece x114)))))))))))))))))))))))))), λ s64. (refl, (λ s65. (refl, (refl, λ x115. (refl, (refl, λ x116. (refl, ((refl, (refl, λ x117. (refl, ((refl, (refl, λ x118. refl)), (refl, (refl, λ x119. (refl, (refl, λ x120. (refl, (refl, λ x121. refl)))))))))), (refl, (refl, λ x122. (refl, (refl, λ x123. (refl, (refl, λ x124. refl)))))))))))), λ s66. (refl, λ x125 r125 e125. (refl, λ x126 r126 e126. (refl, (λ s67. (refl, (refl, λ x127. refl)), λ s68. (refl, (refl, λ x128 r128 e128. (refl, text_after true end (both (piece x1) (both (piece x2) (both none (both (both (piece x106) (both none (both (untagged x107) (both (piece x125) (piece x126))))) (piece x128))))))))))))))))), λ s62. (refl, (λ s69. (refl, λ x129 r129 e129. (refl, λ x130 r130 e130. (refl, λ x131 r131 e131. (refl, (λ s71. (refl, (refl, λ x132. (refl, (refl, λ x133. (refl, (refl, λ x134. (refl, (refl, λ x135. refl)))))))), λ s72. (refl, (refl, λ x136 r136 e136. (refl, (refl, λ x137 r137 e137. (refl, (refl, λ x138 r138 e138. (refl, text_after true end (both (piece x1) (both (piece x2) (both (piece x106) (both none (both none (both (piece x129) (both (piece x130) (both (piece x131) (both (piece x136) (both (piece x137) (piece x138))))))))))))))))))))))), λ s70. (refl, (λ s73. (refl, (refl, λ x139 r139 e139. (refl, (refl, λ x140 r140 e140. (refl, (refl, λ x141 r141 e141. (refl, (refl, λ x142 r142 e142. (refl, (refl, λ x143 r143 e143. (refl, (refl, λ x144 r144 e144. (refl, (refl, λ x145 r145 e145. (refl, text_after true end (both (piece x1) (both (piece x2) (both (piece x106) (both none (both (piece x139) (both (piece x140) (both (piece x141) (both (piece x142) (both (piece x143) (both (piece x144) (piece x145)))))))))))))))))))))))))), λ s74. (refl, (λ s75. (refl, (refl, λ x146. (refl, (refl, λ x147. (refl, ((refl, (refl, λ x148. (refl, ((refl, (refl, λ x149. refl)), (refl, (refl, λ x150. (refl, (refl, λ x151. (refl, (refl, λ x152. refl)))))))))), (refl, (refl, λ x153. (refl, (refl, λ x154. (refl, (refl, λ x155. refl)))))))))))), λ s76. (refl, (λ s77. (refl, λ x156 r156 e156. (refl, λ x157 r157 e157. (refl, λ x158 r158 e158. (refl, λ x159 r159 e159. (refl, (λ s79. (refl, (refl, λ x160. refl)), λ s80. (refl, (refl, λ x161 r161 e161. (refl, text_after true end (both (piece x1) (both (piece x2) (both none (both (both (piece x106) (both (piece x156) (both (piece x157) (both (piece x158) (piece x159))))) (piece x161)))))))))))))), λ s78. (refl, λ x162 r162 e162. (refl, (λ s81. (refl, (refl, λ x163. (refl, (refl, λ x164. (refl, (refl, λ x165. (refl, (refl, λ x166. (refl, (refl, λ x167. (refl, (refl, λ x168. refl)))))))))))), λ s82. (refl, λ x169 r169 e169. (refl, λ x170 r170 e170. (refl, (λ s83. (refl, λ x171 r171 e171. (refl, λ x172 r172 e172. (refl, (λ s85. (refl, (refl, λ x173 r173 e173. (refl, text_after true end (both (piece x1) (both (piece x2) (both none (both (piece x106) (both (piece x162) (both none (both (piece x169) (both (piece x170) (both (piece x171) (both (piece x172) (piece x173)))))))))))))), λ s86. (refl, (refl, λ x174. (refl, (refl, λ x175. refl)))))))), λ s84. (refl, (refl, λ x176. (refl, (refl, λ x177. refl)))))))))))))))))))))), λ s60. (refl, ((refl, (refl, λ x178. (refl, ((refl, (refl, λ x179. (refl, (refl, λ x180. (refl, (refl, λ x181. refl)))))), (refl, ((refl, (refl, λ x182. (refl, (refl, λ x183. (refl, (refl, λ x184. refl)))))), refl)))))), refl))))))))))))))))))))))))))))))), λ s2. (refl, (λ s87. (refl, λ x185 r185 e185. (refl, (λ s89. (refl, (refl, λ x186 r186 e186. (refl, (refl, λ x187 r187 e187. (refl, (refl, λ x188 r188 e188. (refl, (refl, λ x189 r189 e189. (refl, text_after true end (both (piece x1) (both (piece x185) (both (piece x186) (both (piece x187) (both (piece x188) (piece x189))))))))))))))), λ s90. (refl, (λ s91. (refl, (refl, λ x190 r190 e190. (refl, (refl, λ x191 r191 e191. (refl, (refl, λ x192 r192 e192. (refl, (refl, λ x193 r193 e193. (refl, (refl, λ x194 r194 e194. (refl, text_after true end (both (piece x1) (both (piece x185) (both (piece x190) (both (piece x191) (both (piece x192) (both (piece x193) (piece x194)))))))))))))))))), λ s92. (refl, (λ s93. (refl, (refl, λ x195 r195 e195. (refl, (refl, λ x196 r196 e196. (refl, (refl, λ x197 r197 e197. (refl, (refl, λ x198 r198 e198. (refl, (refl, λ x199 r199 e199. (refl, text_after true end (both (piece x1) (both (piece x185) (both (piece x195) (both (piece x196) (both (piece x197) (both (piece x198) (piece x199)))))))))))))))))), λ s94. (refl, (λ s95. (refl, λ x200 r200 e200. (refl, λ x201 r201 e201. (refl, λ x202 r202 e202. (refl, (λ s97. (refl, (refl, λ x203. (refl, (refl, λ x204. (refl, (refl, λ x205. (refl, (refl, λ x206. refl)))))))), λ s98. clause_meets true (λ x207 x208 x209 x210 x211. (item_of type_item x1 (parts (x185 ∷ hidden ∷ x200 ∷ x201 ∷ x202 ∷ hidden ∷ Such (parts (x207 ∷ x208 ∷ x209 ∷ x210 ∷ [])) ∷ x211 ∷ [])))) _ r202 (λ x207 x208 x209 x210 x211. text_after true end (both (piece x1) (both (piece x185) (both none (both (piece x200) (both (piece x201) (both (piece x202) (both none (both (both (piece x207) (both (piece x208) (both (piece x209) (piece x210)))) (piece x211))))))))))))))), λ s96. (refl, (λ s99. (refl, λ x213 r213 e213. (refl, λ x214 r214 e214. (refl, λ x215 r215 e215. (refl, (λ s101. (refl, λ x216 r216 e216. (refl, λ x217 r217 e217. (refl, (λ s103. (refl, (refl, λ x218 r218 e218. (refl, (refl, λ x219 r219 e219. (refl, (refl, λ x220 r220 e220. (refl, text_after true end (both (piece x1) (both (piece x185) (both (piece x213) (both (piece x214) (both (piece x215) (both (piece x216) (both (piece x217) (both (piece x218) (both (piece x219) (piece x220))))))))))))))))), λ s104. (refl, (refl, λ x221. refl)))))), λ s102. (refl, (refl, λ x222. (refl, (refl, λ x223. (refl, (refl, λ x224. refl))))))))))), λ s100. (refl, (λ s105. (refl, λ x225 r225 e225. (refl, (λ s107. rooted_meets true _ _ _ _ _ r225 (λ x226 r226 e226. (refl, (refl, λ x227. refl))) (λ x226 r226 e226. (refl, (refl, λ x228 r228 e228. (refl, text_after true end (both (piece x1) (both (piece x185) (both (piece x225) (both (piece x226) (piece x228))))))))), λ s108. (refl, (refl, λ x229 r229 e229. (refl, (refl, λ x230 r230 e230. (refl, (refl, λ x231 r231 e231. (refl, text_after true end (both (piece x1) (both (piece x185) (both (piece x225) (both (both (piece x229) (piece x230)) (piece x231))))))))))))))), λ s106. (refl, (λ s109. (refl, (refl, λ x232 r232 e232. (refl, (refl, λ x233 r233 e233. (refl, (λ s111. (refl, (refl, λ x234 r234 e234. (refl, text_after true end (both (piece x1) (both (piece x185) (both none (both (piece x232) (both (piece x233) (piece x234))))))))), λ s112. (refl, (refl, λ x235 r235 e235. (refl, text_after true end (both (piece x1) (both (piece x185) (both none (both (piece x232) (both (piece x233) (both none (piece x235)))))))))))))))), λ s110. (refl, (λ s113. (refl, (refl, λ x236 r236 e236. (refl, (refl, λ x237 r237 e237. (refl, (refl, λ x238 r238 e238. (refl, (λ s115. (refl, (refl, λ x239 r239 e239. (refl, (refl, λ x240 r240 e240. (refl, (refl, λ x241 r241 e241. (refl, (refl, λ x242 r242 e242. (refl, text_after true end (both (piece x1) (both (piece x185) (both (piece x236) (both (piece x237) (both (piece x238) (both (piece x239) (both (piece x240) (both (piece x241) (piece x242)))))))))))))))))), λ s116. (refl, (refl, λ x243 r243 e243. (refl, (refl, λ x244 r244 e244. (refl, (refl, λ x245 r245 e245. (refl, text_after true end (both (piece x1) (both (piece x185) (both none (both none (both none (both (piece x236) (both (piece x237) (both (piece x238) (both (piece x243) (both (piece x244) (piece x245)))))))))))))))))))))))))), λ s114. (refl, (λ s117. (refl, (refl, λ x246 r246 e246. (refl, (refl, λ x247 r247 e247. (refl, (refl, λ x248 r248 e248. (refl, (refl, λ x249 r249 e249. (refl, (refl, λ x250 r250 e250. (refl, (refl, λ x251 r251 e251. (refl, (refl, λ x252 r252 e252. (refl, text_after true end (both (piece x1) (both (piece x185) (both none (both none (both (piece x246) (both (piece x247) (both (piece x248) (both (piece x249) (both (piece x250) (both (piece x251) (piece x252)))))))))))))))))))))))))), λ s118. (refl, (λ s119. (refl, (refl, λ x253. (refl, (refl, λ x254. (refl, (refl, λ x255. (refl, (refl, λ x256. refl)))))))), λ s120. (refl, (λ s121. (refl, λ x257 r257 e257. (refl, (λ s123. (refl, (refl, λ x258. refl)), λ s124. (refl, (refl, λ x259 r259 e259. (refl, text_after true end (both (piece x1) (both (piece x185) (both none (both (piece x257) (piece x259))))))))))), λ s122. (refl, (λ s125. (refl, λ x260 r260 e260. (refl, (λ s127. (refl, (refl, λ x261 r261 e261. (refl, (refl, λ x262 r262 e262. (refl, (refl, λ x263 r263 e263. (refl, (refl, λ x264 r264 e264. (refl, text_after true end (both (piece x1) (both (piece x185) (both (piece x260) (both (piece x261) (both (piece x262) (both (piece x263) (piece x264)))))))))))))))), λ s128. (refl, λ x265 r265 e265. (refl, λ x266 r266 e266. (refl, (λ s129. (refl, (refl, λ x267. refl)), λ s130. (refl, (refl, λ x268 r268 e268. (refl, text_after true end (both (piece x1) (both (piece x185) (both none (both (both none (both none (both none (both (both (piece x260) (piece x265)) (piece x266))))) (piece x268))))))))))))))), λ s126. (refl, (λ s131. (refl, λ x269 r269 e269. (refl, (λ s133. (refl, (refl, λ x270 r270 e270. (refl, (refl, λ x271 r271 e271. (refl, (λ s135. (refl, (refl, λ x272 r272 e272. (refl, text_after true end (both (piece x1) (both (piece x185) (both (piece x269) (both (piece x270) (both (piece x271) (piece x272))))))))), λ s136. (refl, (refl, λ x273 r273 e273. (refl, text_after true end (both (piece x1) (both (piece x185) (both (piece x269) (both (piece x270) (both (piece x271) (both none (piece x273)))))))))))))))), λ s134. (refl, (λ s137. (refl, (refl, λ x274 r274 e274. (refl, (refl, λ x275 r275 e275. (refl, (refl, λ x276 r276 e276. (refl, (refl, λ x277 r277 e277. (refl, (refl, λ x278 r278 e278. (refl, (refl, λ x279 r279 e279. (refl, (refl, λ x280 r280 e280. (refl, text_after true end (both (piece x1) (both (piece x185) (both none (both (piece x269) (both (piece x274) (both (piece x275) (both (piece x276) (both (piece x277) (both (piece x278) (both (piece x279) (piece x280)))))))))))))))))))))))))), λ s138. (refl, (λ s139. (refl, λ x281 r281 e281. (refl, λ x282 r282 e282. (refl, λ x283 r283 e283. (refl, (λ s141. (refl, (refl, λ x284. refl)), λ s142. (refl, (refl, λ x285 r285 e285. (refl, text_after true end (both (piece x1) (both (piece x185) (both none (both (both none (both none (both (untagged x269) (both (both (piece x281) (piece x282)) (piece x283))))) (piece x285))))))))))))), λ s140. (refl, λ x286 r286 e286. (refl, (λ s143. (refl, (refl, λ x287. refl)), λ s144. (refl, (refl, λ x288 r288 e288. (refl, text_after true end (both (piece x1) (both (piece x185) (both none (both (both none (both none (both (untagged x269) (both none (piece x286))))) (piece x288)))))))))))))))))), λ s132. (refl, (λ s145. (refl, λ x289 r289 e289. (refl, (λ s147. (refl, λ x290 r290 e290. (refl, (λ s149. (refl, (refl, λ x291 r291 e291. (refl, (refl, λ x292 r292 e292. (refl, (refl, λ x293 r293 e293. (refl, (refl, λ x294 r294 e294. (refl, (refl, λ x295 r295 e295. (refl, (refl, λ x296 r296 e296. (refl, (refl, λ x297 r297 e297. (refl, text_after true end (both (piece x1) (both (piece x185) (both (piece x289) (both (piece x290) (both (piece x291) (both (piece x292) (both (piece x293) (both (piece x294) (both (piece x295) (both (piece x296) (piece x297)))))))))))))))))))))))))), λ s150. (refl, (λ s151. refl, λ s152. (refl, λ x298 r298 e298. (refl, λ x299 r299 e299. (refl, (λ s153. (refl, (refl, λ x300. refl)), λ s154. (refl, (refl, λ x301 r301 e301. (refl, text_after true end (both (piece x1) (both (piece x185) (both none (both (both (piece x289) (both none (both (untagged x290) (both (piece x298) (piece x299))))) (piece x301))))))))))))))))), λ s148. (refl, (λ s155. (refl, λ x302 r302 e302. (refl, λ x303 r303 e303. (refl, λ x304 r304 e304. (refl, (λ s157. (refl, (refl, λ x305. (refl, (refl, λ x306. (refl, (refl, λ x307. (refl, (refl, λ x308. refl)))))))), λ s158. (refl, (refl, λ x309 r309 e309. (refl, (refl, λ x310 r310 e310. (refl, (refl, λ x311 r311 e311. (refl, text_after true end (both (piece x1) (both (piece x185) (both (piece x289) (both none (both none (both (piece x302) (both (piece x303) (both (piece x304) (both (piece x309) (both (piece x310) (piece x311))))))))))))))))))))))), λ s156. (refl, (λ s159. (refl, (refl, λ x312 r312 e312. (refl, (refl, λ x313 r313 e313. (refl, (refl, λ x314 r314 e314. (refl, (refl, λ x315 r315 e315. (refl, (refl, λ x316 r316 e316. (refl, (refl, λ x317 r317 e317. (refl, (refl, λ x318 r318 e318. (refl, text_after true end (both (piece x1) (both (piece x185) (both (piece x289) (both none (both (piece x312) (both (piece x313) (both (piece x314) (both (piece x315) (both (piece x316) (both (piece x317) (piece x318)))))))))))))))))))))))))), λ s160. (refl, (λ s161. refl, λ s162. (refl, (λ s163. (refl, λ x319 r319 e319. (refl, λ x320 r320 e320. (refl, λ x321 r321 e321. (refl, λ x322 r322 e322. (refl, (λ s165. (refl, (refl, λ x323. refl)), λ s166. (refl, (refl, λ x324 r324 e324. (refl, text_after true end (both (piece x1) (both (piece x185) (both none (both (both (piece x289) (both (piece x319) (both (piece x320) (both (piece x321) (piece x322))))) (piece x324)))))))))))))), λ s164. (refl, λ x325 r325 e325. (refl, (λ s167. (refl, (refl, λ x326. (refl, (refl, λ x327. (refl, (refl, λ x328. (refl, (refl, λ x329. (refl, (refl, λ x330. (refl, (refl, λ x331. refl)))))))))))), λ s168. (refl, λ x332 r332 e332. (refl, λ x333 r333 e333. (refl, (λ s169. (refl, λ x334 r334 e334. (refl, λ x335 r335 e335. (refl, (λ s171. (refl, (refl, λ x336 r336 e336. (refl, text_after true end (both (piece x1) (both (piece x185) (both none (both (piece x289) (both (piece x325) (both none (both (piece x332) (both (piece x333) (both (piece x334) (both (piece x335) (piece x336)))))))))))))), λ s172. (refl, (refl, λ x337. (refl, (refl, λ x338. refl)))))))), λ s170. (refl, (refl, λ x339. (refl, (refl, λ x340. refl)))))))))))))))))))))), λ s146. (refl, ((refl, (refl, λ x341. (refl, ((refl, (refl, λ x342. (refl, (refl, λ x343. (refl, (refl, λ x344. refl)))))), (refl, ((refl, (refl, λ x345. (refl, (refl, λ x346. (refl, (refl, λ x347. refl)))))), refl)))))), refl))))))))))))))))))))))))))))))), λ s88. (refl, (λ s173. (refl, (refl, λ x348 r348 e348. (refl, (refl, λ x349 r349 e349. (refl, (refl, λ x350 r350 e350. (refl, (refl, λ x351 r351 e351. (refl, text_after true end (both (piece x1) (both none (both (piece x348) (both (piece x349) (both (piece x350) (piece x351))))))))))))))), λ s174. (refl, (λ s175. (refl, (refl, λ x352 r352 e352. (refl, (refl, λ x353 r353 e353. (refl, (refl, λ x354 r354 e354. (refl, (refl, λ x355 r355 e355. (refl, (refl, λ x356 r356 e356. (refl, text_after true end (both (piece x1) (both none (both (piece x352) (both (piece x353) (both (piece x354) (both (piece x355) (piece x356)))))))))))))))))), λ s176. (refl, (λ s177. (refl, (refl, λ x357 r357 e357. (refl, (refl, λ x358 r358 e358. (refl, (refl, λ x359 r359 e359. (refl, (refl, λ x360 r360 e360. (refl, (refl, λ x361 r361 e361. (refl, text_after true end (both (piece x1) (both none (both (piece x357) (both (piece x358) (both (piece x359) (both (piece x360) (piece x361)))))))))))))))))), λ s178. (refl, (λ s179. (refl, λ x362 r362 e362. (refl, λ x363 r363 e363. (refl, λ x364 r364 e364. (refl, (λ s181. (refl, (refl, λ x365. (refl, (refl, λ x366. (refl, (refl, λ x367. (refl, (refl, λ x368. refl)))))))), λ s182. clause_meets true (λ x369 x370 x371 x372 x373. (item_of type_item x1 (parts (inherited ∷ hidden ∷ x362 ∷ x363 ∷ x364 ∷ hidden ∷ Such (parts (x369 ∷ x370 ∷ x371 ∷ x372 ∷ [])) ∷ x373 ∷ [])))) _ r364 (λ x369 x370 x371 x372 x373. text_after true end (both (piece x1) (both none (both none (both (piece x362) (both (piece x363) (both (piece x364) (both none (both (both (piece x369) (both (piece x370) (both (piece x371) (piece x372)))) (piece x373))))))))))))))), λ s180. (refl, (λ s183. (refl, λ x375 r375 e375. (refl, λ x376 r376 e376. (refl, λ x377 r377 e377. (refl, (λ s185. (refl, λ x378 r378 e378. (refl, λ x379 r379 e379. (refl, (λ s187. (refl, (refl, λ x380 r380 e380. (refl, (refl, λ x381 r381 e381. (refl, (refl, λ x382 r382 e382. (refl, text_after true end (both (piece x1) (both none (both (piece x375) (both (piece x376) (both (piece x377) (both (piece x378) (both (piece x379) (both (piece x380) (both (piece x381) (piece x382))))))))))))))))), λ s188. (refl, (refl, λ x383. refl)))))), λ s186. (refl, (refl, λ x384. (refl, (refl, λ x385. (refl, (refl, λ x386. refl))))))))))), λ s184. (refl, (λ s189. (refl, λ x387 r387 e387. (refl, (λ s191. rooted_meets true _ _ _ _ _ r387 (λ x388 r388 e388. (refl, (refl, λ x389. refl))) (λ x388 r388 e388. (refl, (refl, λ x390 r390 e390. (refl, text_after true end (both (piece x1) (both none (both (piece x387) (both (piece x388) (piece x390))))))))), λ s192. (refl, (refl, λ x391 r391 e391. (refl, (refl, λ x392 r392 e392. (refl, (refl, λ x393 r393 e393. (refl, text_after true end (both (piece x1) (both none (both (piece x387) (both (both (piece x391) (piece x392)) (piece x393))))))))))))))), λ s190. (refl, (λ s193. (refl, (refl, λ x394 r394 e394. (refl, (refl, λ x395 r395 e395. (refl, (λ s195. (refl, (refl, λ x396 r396 e396. (refl, text_after true end (both (piece x1) (both none (both none (both (piece x394) (both (piece x395) (piece x396))))))))), λ s196. (refl, (refl, λ x397 r397 e397. (refl, text_after true end (both (piece x1) (both none (both none (both (piece x394) (both (piece x395) (both none (piece x397)))))))))))))))), λ s194. (refl, (λ s197. (refl, (refl, λ x398 r398 e398. (refl, (refl, λ x399 r399 e399. (refl, (refl, λ x400 r400 e400. (refl, (λ s199. (refl, (refl, λ x401 r401 e401. (refl, (refl, λ x402 r402 e402. (refl, (refl, λ x403 r403 e403. (refl, (refl, λ x404 r404 e404. (refl, text_after true end (both (piece x1) (both none (both (piece x398) (both (piece x399) (both (piece x400) (both (piece x401) (both (piece x402) (both (piece x403) (piece x404)))))))))))))))))), λ s200. (refl, (refl, λ x405 r405 e405. (refl, (refl, λ x406 r406 e406. (refl, (refl, λ x407 r407 e407. (refl, text_after true end (both (piece x1) (both none (both none (both none (both none (both (piece x398) (both (piece x399) (both (piece x400) (both (piece x405) (both (piece x406) (piece x407)))))))))))))))))))))))))), λ s198. (refl, (λ s201. (refl, (refl, λ x408 r408 e408. (refl, (refl, λ x409 r409 e409. (refl, (refl, λ x410 r410 e410. (refl, (refl, λ x411 r411 e411. (refl, (refl, λ x412 r412 e412. (refl, (refl, λ x413 r413 e413. (refl, (refl, λ x414 r414 e414. (refl, text_after true end (both (piece x1) (both none (both none (both none (both (piece x408) (both (piece x409) (both (piece x410) (both (piece x411) (both (piece x412) (both (piece x413) (piece x414)))))))))))))))))))))))))), λ s202. (refl, (λ s203. (refl, (refl, λ x415. (refl, (refl, λ x416. (refl, (refl, λ x417. (refl, (refl, λ x418. refl)))))))), λ s204. (refl, (λ s205. (refl, λ x419 r419 e419. (refl, (λ s207. (refl, (refl, λ x420. refl)), λ s208. (refl, (refl, λ x421 r421 e421. (refl, text_after true end (both (piece x1) (both none (both none (both (piece x419) (piece x421))))))))))), λ s206. (refl, (λ s209. (refl, λ x422 r422 e422. (refl, (λ s211. (refl, (refl, λ x423 r423 e423. (refl, (refl, λ x424 r424 e424. (refl, (refl, λ x425 r425 e425. (refl, (refl, λ x426 r426 e426. (refl, text_after true end (both (piece x1) (both none (both (piece x422) (both (piece x423) (both (piece x424) (both (piece x425) (piece x426)))))))))))))))), λ s212. (refl, λ x427 r427 e427. (refl, (λ s213. (refl, (refl, λ x428 r428 e428. (refl, text_after true end (both (piece x1) (both none (both (both (piece x422) (piece x427)) (piece x428))))))), λ s214. (refl, λ x429 r429 e429. (refl, (λ s215. (refl, (refl, λ x430. refl)), λ s216. (refl, (refl, λ x431 r431 e431. (refl, text_after true end (both (piece x1) (both none (both none (both (both none (both none (both none (both (both (piece x422) (piece x427)) (piece x429))))) (piece x431))))))))))))))))), λ s210. (refl, (λ s217. (refl, λ x432 r432 e432. (refl, (λ s219. (refl, (refl, λ x433 r433 e433. (refl, (refl, λ x434 r434 e434. (refl, (λ s221. (refl, (refl, λ x435 r435 e435. (refl, text_after true end (both (piece x1) (both none (both (piece x432) (both (piece x433) (both (piece x434) (piece x435))))))))), λ s222. (refl, (refl, λ x436 r436 e436. (refl, text_after true end (both (piece x1) (both none (both (piece x432) (both (piece x433) (both (piece x434) (both none (piece x436)))))))))))))))), λ s220. (refl, (λ s223. (refl, (refl, λ x437 r437 e437. (refl, (refl, λ x438 r438 e438. (refl, (refl, λ x439 r439 e439. (refl, (refl, λ x440 r440 e440. (refl, (refl, λ x441 r441 e441. (refl, (refl, λ x442 r442 e442. (refl, (refl, λ x443 r443 e443. (refl, text_after true end (both (piece x1) (both none (both none (both (piece x432) (both (piece x437) (both (piece x438) (both (piece x439) (both (piece x440) (both (piece x441) (both (piece x442) (piece x443)))))))))))))))))))))))))), λ s224. (refl, (λ s225. (refl, λ x444 r444 e444. item_impl_meets true (λ z. item_of impl_definition x1 (parts (absent ∷ absent ∷ (Left x432) ∷ x444 ∷ z ∷ []))) _ r444 (λ z. text_after true end (both (piece x1) (both none (both none (both (piece x432) (both (piece x444) (piece z)))))))), λ s226. (refl, (λ s227. (refl, λ x445 r445 e445. (refl, λ x446 r446 e446. (refl, (λ s229. (refl, (refl, λ x447 r447 e447. (refl, text_after true end (both (piece x1) (both (piece x432) (both (both (piece x445) (piece x446)) (piece x447))))))), λ s230. (refl, λ x448 r448 e448. (refl, (λ s231. (refl, (refl, λ x449. refl)), λ s232. (refl, (refl, λ x450 r450 e450. (refl, text_after true end (both (piece x1) (both none (both none (both (both none (both none (both (untagged x432) (both (both (piece x445) (piece x446)) (piece x448))))) (piece x450))))))))))))))), λ s228. (refl, λ x451 r451 e451. (refl, (λ s233. (refl, (refl, λ x452. refl)), λ s234. (refl, (refl, λ x453 r453 e453. (refl, text_after true end (both (piece x1) (both none (both none (both (both none (both none (both (untagged x432) (both none (piece x451))))) (piece x453)))))))))))))))))))), λ s218. (refl, (λ s235. (refl, λ x454 r454 e454. (refl, (λ s237. (refl, λ x455 r455 e455. (refl, (λ s239. (refl, (refl, λ x456 r456 e456. (refl, (refl, λ x457 r457 e457. (refl, (refl, λ x458 r458 e458. (refl, (refl, λ x459 r459 e459. (refl, (refl, λ x460 r460 e460. (refl, (refl, λ x461 r461 e461. (refl, (refl, λ x462 r462 e462. (refl, text_after true end (both (piece x1) (both none (both (piece x454) (both (piece x455) (both (piece x456) (both (piece x457) (both (piece x458) (both (piece x459) (both (piece x460) (both (piece x461) (piece x462)))))))))))))))))))))))))), λ s240. (refl, (λ s241. (refl, λ x463 r463 e463. item_impl_meets true (λ z. item_of impl_definition x1 (parts (absent ∷ (Left x454) ∷ (Left x455) ∷ x463 ∷ z ∷ []))) _ r463 (λ z. text_after true end (both (piece x1) (both none (both (piece x454) (both (piece x455) (both (piece x463) (piece z)))))))), λ s242. (refl, λ x464 r464 e464. (refl, λ x465 r465 e465. (refl, (λ s243. (refl, (refl, λ x466. refl)), λ s244. (refl, (refl, λ x467 r467 e467. (refl, text_after true end (both (piece x1) (both none (both none (both (both (piece x454) (both none (both (untagged x455) (both (piece x464) (piece x465))))) (piece x467))))))))))))))))), λ s238. (refl, (λ s245. (refl, λ x468 r468 e468. (refl, λ x469 r469 e469. (refl, λ x470 r470 e470. (refl, (λ s247. (refl, (refl, λ x471. (refl, (refl, λ x472. (refl, (refl, λ x473. (refl, (refl, λ x474. refl)))))))), λ s248. (refl, (refl, λ x475 r475 e475. (refl, (refl, λ x476 r476 e476. (refl, (refl, λ x477 r477 e477. (refl, text_after true end (both (piece x1) (both none (both (piece x454) (both none (both none (both (piece x468) (both (piece x469) (both (piece x470) (both (piece x475) (both (piece x476) (piece x477))))))))))))))))))))))), λ s246. (refl, (λ s249. (refl, (refl, λ x478 r478 e478. (refl, (refl, λ x479 r479 e479. (refl, (refl, λ x480 r480 e480. (refl, (refl, λ x481 r481 e481. (refl, (refl, λ x482 r482 e482. (refl, (refl, λ x483 r483 e483. (refl, (refl, λ x484 r484 e484. (refl, text_after true end (both (piece x1) (both none (both (piece x454) (both none (both (piece x478) (both (piece x479) (both (piece x480) (both (piece x481) (both (piece x482) (both (piece x483) (piece x484)))))))))))))))))))))))))), λ s250. (refl, (λ s251. (refl, λ x485 r485 e485. item_impl_meets true (λ z. item_of impl_definition x1 (parts (absent ∷ (Left x454) ∷ absent ∷ x485 ∷ z ∷ []))) _ r485 (λ z. text_after true end (both (piece x1) (both none (both (piece x454) (both none (both (piece x485) (piece z)))))))), λ s252. (refl, (λ s253. (refl, λ x486 r486 e486. (refl, λ x487 r487 e487. (refl, λ x488 r488 e488. (refl, λ x489 r489 e489. (refl, (λ s255. (refl, (refl, λ x490. refl)), λ s256. (refl, (refl, λ x491 r491 e491. (refl, text_after true end (both (piece x1) (both none (both none (both (both (piece x454) (both (piece x486) (both (piece x487) (both (piece x488) (piece x489))))) (piece x491)))))))))))))), λ s254. (refl, λ x492 r492 e492. (refl, (λ s257. (refl, (refl, λ x493. (refl, (refl, λ x494. (refl, (refl, λ x495. (refl, (refl, λ x496. (refl, (refl, λ x497. (refl, (refl, λ x498. refl)))))))))))), λ s258. (refl, λ x499 r499 e499. (refl, λ x500 r500 e500. (refl, (λ s259. (refl, λ x501 r501 e501. (refl, λ x502 r502 e502. (refl, (λ s261. (refl, (refl, λ x503 r503 e503. (refl, text_after true end (both (piece x1) (both none (both none (both (piece x454) (both (piece x492) (both none (both (piece x499) (both (piece x500) (both (piece x501) (both (piece x502) (piece x503)))))))))))))), λ s262. (refl, (refl, λ x504. (refl, (refl, λ x505. refl)))))))), λ s260. (refl, (refl, λ x506. (refl, (refl, λ x507. refl)))))))))))))))))))))), λ s236. (refl, (λ s263. (refl, λ x508 r508 e508. (refl, (λ s265. (refl, (refl, λ x509. (refl, (refl, λ x510. (refl, (refl, λ x511. refl)))))), λ s266. (refl, (λ s267. (refl, λ x512 r512 e512. (refl, (λ s269. (refl, (refl, λ x513. (refl, (refl, λ x514. refl)))), λ s270. (refl, (λ s271. (refl, (refl, λ x515 r515 e515. (refl, lone_text true (λ z. item_of impl_definition x1 (parts (absent ∷ absent ∷ absent ∷ x508 ∷ z ∷ []))) _ _ _ _ x512 x515 (λ z. text_after true end (both (piece x1) (both none (both none (both none (both (piece x508) (piece z))))))) s267 e512 e515))), λ s272. (refl, (refl, λ x516. (refl, (refl, λ x517. refl))))))))), λ s268. item_impl_meets true (λ z. item_of impl_definition x1 (parts (absent ∷ absent ∷ absent ∷ x508 ∷ z ∷ []))) _ r508 (λ z. text_after true end (both (piece x1) (both none (both none (both none (both (piece x508) (piece z)))))))))))), λ s264. (refl, (λ s273. (refl, (λ s275. (refl, (λ s277. refl, λ s278. (refl, (refl, λ x518 r518 e518. (refl, (refl, λ x519 r519 e519. (refl, (refl, λ x520 r520 e520. (refl, (refl, λ x521 r521 e521. (refl, text_after true end (both (piece x1) (both (piece x518) (both (piece x519) (both (piece x520) (piece x521)))))))))))))))), λ s276. (refl, λ x522 r522 e522. (refl, λ x523 r523 e523. (refl, λ x524 r524 e524. (refl, λ x525 r525 e525. item_impl_meets true (λ z. item_of impl_definition x1 (parts ((Left x522) ∷ x523 ∷ x524 ∷ x525 ∷ z ∷ []))) _ r525 (λ z. text_after true end (both (piece x1) (both (piece x522) (both (piece x523) (both (piece x524) (both (piece x525) (piece z))))))))))))), λ s274. (refl, (λ s279. refl, λ s280. (refl, (refl, λ x526 r526 e526. (refl, (refl, λ x527 r527 e527. (refl, (refl, λ x528 r528 e528. (refl, (refl, λ x529 r529 e529. (refl, text_after true end (both (piece x1) (both (piece x526) (both (piece x527) (both (piece x528) (piece x529)))))))))))))))))))))))))))))))))))))))))))))))))))))
item_goes false m = (refl, λ x1 r1 e1. (refl, (λ s1. (refl, λ x2 r2 e2. (refl, (λ s3. (refl, (refl, λ x3 r3 e3. (refl, (refl, λ x4 r4 e4. (refl, (refl, λ x5 r5 e5. (refl, (refl, λ x6 r6 e6. (refl, text_after false end (both (piece x1) (both (piece x2) (both (piece x3) (both (piece x4) (both (piece x5) (piece x6))))))))))))))), λ s4. (refl, (λ s5. (refl, (refl, λ x7 r7 e7. (refl, (refl, λ x8 r8 e8. (refl, (refl, λ x9 r9 e9. (refl, (refl, λ x10 r10 e10. (refl, (refl, λ x11 r11 e11. (refl, text_after false end (both (piece x1) (both (piece x2) (both (piece x7) (both (piece x8) (both (piece x9) (both (piece x10) (piece x11)))))))))))))))))), λ s6. (refl, (λ s7. (refl, (refl, λ x12 r12 e12. (refl, (refl, λ x13 r13 e13. (refl, (refl, λ x14 r14 e14. (refl, (refl, λ x15 r15 e15. (refl, (refl, λ x16 r16 e16. (refl, text_after false end (both (piece x1) (both (piece x2) (both (piece x12) (both (piece x13) (both (piece x14) (both (piece x15) (piece x16)))))))))))))))))), λ s8. (refl, (λ s9. (refl, λ x17 r17 e17. (refl, λ x18 r18 e18. (refl, λ x19 r19 e19. (refl, (λ s11. (refl, (refl, λ x20. (refl, (refl, λ x21. (refl, (refl, λ x22. (refl, (refl, λ x23. refl)))))))), λ s12. clause_meets false (λ x24 x25 x26 x27 x28. (item_of type_item x1 (parts (x2 ∷ hidden ∷ x17 ∷ x18 ∷ x19 ∷ hidden ∷ Such (parts (x24 ∷ x25 ∷ x26 ∷ x27 ∷ [])) ∷ x28 ∷ [])))) _ r19 (λ x24 x25 x26 x27 x28. text_after false end (both (piece x1) (both (piece x2) (both none (both (piece x17) (both (piece x18) (both (piece x19) (both none (both (both (piece x24) (both (piece x25) (both (piece x26) (piece x27)))) (piece x28))))))))))))))), λ s10. (refl, (λ s13. (refl, λ x30 r30 e30. (refl, λ x31 r31 e31. (refl, λ x32 r32 e32. (refl, (λ s15. (refl, λ x33 r33 e33. (refl, λ x34 r34 e34. (refl, (λ s17. (refl, (refl, λ x35 r35 e35. (refl, (refl, λ x36 r36 e36. (refl, (refl, λ x37 r37 e37. (refl, text_after false end (both (piece x1) (both (piece x2) (both (piece x30) (both (piece x31) (both (piece x32) (both (piece x33) (both (piece x34) (both (piece x35) (both (piece x36) (piece x37))))))))))))))))), λ s18. (refl, (refl, λ x38. refl)))))), λ s16. (refl, (refl, λ x39. (refl, (refl, λ x40. (refl, (refl, λ x41. refl))))))))))), λ s14. (refl, (λ s19. (refl, λ x42 r42 e42. (refl, (λ s21. rooted_meets false _ _ _ _ _ r42 (λ x43 r43 e43. (refl, (refl, λ x44. refl))) (λ x43 r43 e43. (refl, (refl, λ x45 r45 e45. (refl, text_after false end (both (piece x1) (both (piece x2) (both (piece x42) (both (piece x43) (piece x45))))))))), λ s22. (refl, (refl, λ x46 r46 e46. (refl, (refl, λ x47 r47 e47. (refl, (refl, λ x48 r48 e48. (refl, text_after false end (both (piece x1) (both (piece x2) (both (piece x42) (both (both (piece x46) (piece x47)) (piece x48))))))))))))))), λ s20. (refl, (λ s23. (refl, (refl, λ x49 r49 e49. (refl, (refl, λ x50 r50 e50. (refl, (λ s25. (refl, (refl, λ x51 r51 e51. (refl, text_after false end (both (piece x1) (both (piece x2) (both none (both (piece x49) (both (piece x50) (piece x51))))))))), λ s26. (refl, (refl, λ x52 r52 e52. (refl, text_after false end (both (piece x1) (both (piece x2) (both none (both (piece x49) (both (piece x50) (both none (piece x52)))))))))))))))), λ s24. (refl, (λ s27. (refl, (refl, λ x53 r53 e53. (refl, (refl, λ x54 r54 e54. (refl, (refl, λ x55 r55 e55. (refl, (λ s29. (refl, (refl, λ x56 r56 e56. (refl, (refl, λ x57 r57 e57. (refl, (refl, λ x58 r58 e58. (refl, (refl, λ x59 r59 e59. (refl, text_after false end (both (piece x1) (both (piece x2) (both (piece x53) (both (piece x54) (both (piece x55) (both (piece x56) (both (piece x57) (both (piece x58) (piece x59)))))))))))))))))), λ s30. (refl, (refl, λ x60 r60 e60. (refl, (refl, λ x61 r61 e61. (refl, (refl, λ x62 r62 e62. (refl, text_after false end (both (piece x1) (both (piece x2) (both none (both none (both none (both (piece x53) (both (piece x54) (both (piece x55) (both (piece x60) (both (piece x61) (piece x62)))))))))))))))))))))))))), λ s28. (refl, (λ s31. (refl, (refl, λ x63 r63 e63. (refl, (refl, λ x64 r64 e64. (refl, (refl, λ x65 r65 e65. (refl, (refl, λ x66 r66 e66. (refl, (refl, λ x67 r67 e67. (refl, (refl, λ x68 r68 e68. (refl, (refl, λ x69 r69 e69. (refl, text_after false end (both (piece x1) (both (piece x2) (both none (both none (both (piece x63) (both (piece x64) (both (piece x65) (both (piece x66) (both (piece x67) (both (piece x68) (piece x69)))))))))))))))))))))))))), λ s32. (refl, (λ s33. (refl, (refl, λ x70. (refl, (refl, λ x71. (refl, (refl, λ x72. (refl, (refl, λ x73. refl)))))))), λ s34. (refl, (λ s35. (refl, λ x74 r74 e74. (refl, (λ s37. (refl, (refl, λ x75. refl)), λ s38. (refl, (refl, λ x76 r76 e76. (refl, text_after false end (both (piece x1) (both (piece x2) (both none (both (piece x74) (piece x76))))))))))), λ s36. (refl, (λ s39. (refl, λ x77 r77 e77. (refl, (λ s41. (refl, (refl, λ x78 r78 e78. (refl, (refl, λ x79 r79 e79. (refl, (refl, λ x80 r80 e80. (refl, (refl, λ x81 r81 e81. (refl, text_after false end (both (piece x1) (both (piece x2) (both (piece x77) (both (piece x78) (both (piece x79) (both (piece x80) (piece x81)))))))))))))))), λ s42. (refl, λ x82 r82 e82. (refl, λ x83 r83 e83. (refl, (λ s43. (refl, (refl, λ x84. refl)), λ s44. (refl, (refl, λ x85 r85 e85. (refl, text_after false end (both (piece x1) (both (piece x2) (both none (both (both none (both none (both none (both (both (piece x77) (piece x82)) (piece x83))))) (piece x85))))))))))))))), λ s40. (refl, (λ s45. (refl, λ x86 r86 e86. (refl, (λ s47. (refl, (refl, λ x87 r87 e87. (refl, (refl, λ x88 r88 e88. (refl, (λ s49. (refl, (refl, λ x89 r89 e89. (refl, text_after false end (both (piece x1) (both (piece x2) (both (piece x86) (both (piece x87) (both (piece x88) (piece x89))))))))), λ s50. (refl, (refl, λ x90 r90 e90. (refl, text_after false end (both (piece x1) (both (piece x2) (both (piece x86) (both (piece x87) (both (piece x88) (both none (piece x90)))))))))))))))), λ s48. (refl, (λ s51. (refl, (refl, λ x91 r91 e91. (refl, (refl, λ x92 r92 e92. (refl, (refl, λ x93 r93 e93. (refl, (refl, λ x94 r94 e94. (refl, (refl, λ x95 r95 e95. (refl, (refl, λ x96 r96 e96. (refl, (refl, λ x97 r97 e97. (refl, text_after false end (both (piece x1) (both (piece x2) (both none (both (piece x86) (both (piece x91) (both (piece x92) (both (piece x93) (both (piece x94) (both (piece x95) (both (piece x96) (piece x97)))))))))))))))))))))))))), λ s52. (refl, (λ s53. (refl, λ x98 r98 e98. (refl, λ x99 r99 e99. (refl, λ x100 r100 e100. (refl, (λ s55. (refl, (refl, λ x101. refl)), λ s56. (refl, (refl, λ x102 r102 e102. (refl, text_after false end (both (piece x1) (both (piece x2) (both none (both (both none (both none (both (untagged x86) (both (both (piece x98) (piece x99)) (piece x100))))) (piece x102))))))))))))), λ s54. (refl, λ x103 r103 e103. (refl, (λ s57. (refl, (refl, λ x104. refl)), λ s58. (refl, (refl, λ x105 r105 e105. (refl, text_after false end (both (piece x1) (both (piece x2) (both none (both (both none (both none (both (untagged x86) (both none (piece x103))))) (piece x105)))))))))))))))))), λ s46. (refl, (λ s59. (refl, λ x106 r106 e106. (refl, (λ s61. (refl, λ x107 r107 e107. (refl, (λ s63. (refl, (refl, λ x108 r108 e108. (refl, (refl, λ x109 r109 e109. (refl, (refl, λ x110 r110 e110. (refl, (refl, λ x111 r111 e111. (refl, (refl, λ x112 r112 e112. (refl, (refl, λ x113 r113 e113. (refl, (refl, λ x114 r114 e114. (refl, text_after false end (both (piece x1) (both (piece x2) (both (piece x106) (both (piece x107) (both (piece x108) (both (piece x109) (both (piece x110) (both (piece x111) (both (piece x112) (both (piece x113) (piece x114)))))))))))))))))))))))))), λ s64. (refl, (λ s65. (refl, (refl, λ x115. (refl, (refl, λ x116. (refl, ((refl, (refl, λ x117. (refl, ((refl, (refl, λ x118. refl)), (refl, (refl, λ x119. (refl, (refl, λ x120. (refl, (refl, λ x121. refl)))))))))), (refl, (refl, λ x122. (refl, (refl, λ x123. (refl, (refl, λ x124. refl)))))))))))), λ s66. (refl, λ x125 r125 e125. (refl, λ x126 r126 e126. (refl, (λ s67. (refl, (refl, λ x127. refl)), λ s68. (refl, (refl, λ x128 r128 e128. (refl, text_after false end (both (piece x1) (both (piece x2) (both none (both (both (piece x106) (both none (both (untagged x107) (both (piece x125) (piece x126))))) (piece x128))))))))))))))))), λ s62. (refl, (λ s69. (refl, λ x129 r129 e129. (refl, λ x130 r130 e130. (refl, λ x131 r131 e131. (refl, (λ s71. (refl, (refl, λ x132. (refl, (refl, λ x133. (refl, (refl, λ x134. (refl, (refl, λ x135. refl)))))))), λ s72. (refl, (refl, λ x136 r136 e136. (refl, (refl, λ x137 r137 e137. (refl, (refl, λ x138 r138 e138. (refl, text_after false end (both (piece x1) (both (piece x2) (both (piece x106) (both none (both none (both (piece x129) (both (piece x130) (both (piece x131) (both (piece x136) (both (piece x137) (piece x138))))))))))))))))))))))), λ s70. (refl, (λ s73. (refl, (refl, λ x139 r139 e139. (refl, (refl, λ x140 r140 e140. (refl, (refl, λ x141 r141 e141. (refl, (refl, λ x142 r142 e142. (refl, (refl, λ x143 r143 e143. (refl, (refl, λ x144 r144 e144. (refl, (refl, λ x145 r145 e145. (refl, text_after false end (both (piece x1) (both (piece x2) (both (piece x106) (both none (both (piece x139) (both (piece x140) (both (piece x141) (both (piece x142) (both (piece x143) (both (piece x144) (piece x145)))))))))))))))))))))))))), λ s74. (refl, (λ s75. (refl, (refl, λ x146. (refl, (refl, λ x147. (refl, ((refl, (refl, λ x148. (refl, ((refl, (refl, λ x149. refl)), (refl, (refl, λ x150. (refl, (refl, λ x151. (refl, (refl, λ x152. refl)))))))))), (refl, (refl, λ x153. (refl, (refl, λ x154. (refl, (refl, λ x155. refl)))))))))))), λ s76. (refl, (λ s77. (refl, λ x156 r156 e156. (refl, λ x157 r157 e157. (refl, λ x158 r158 e158. (refl, λ x159 r159 e159. (refl, (λ s79. (refl, (refl, λ x160. refl)), λ s80. (refl, (refl, λ x161 r161 e161. (refl, text_after false end (both (piece x1) (both (piece x2) (both none (both (both (piece x106) (both (piece x156) (both (piece x157) (both (piece x158) (piece x159))))) (piece x161)))))))))))))), λ s78. (refl, λ x162 r162 e162. (refl, (λ s81. (refl, (refl, λ x163. (refl, (refl, λ x164. (refl, (refl, λ x165. (refl, (refl, λ x166. (refl, (refl, λ x167. (refl, (refl, λ x168. refl)))))))))))), λ s82. (refl, λ x169 r169 e169. (refl, λ x170 r170 e170. (refl, (λ s83. (refl, λ x171 r171 e171. (refl, λ x172 r172 e172. (refl, (λ s85. (refl, (refl, λ x173 r173 e173. (refl, text_after false end (both (piece x1) (both (piece x2) (both none (both (piece x106) (both (piece x162) (both none (both (piece x169) (both (piece x170) (both (piece x171) (both (piece x172) (piece x173)))))))))))))), λ s86. (refl, (refl, λ x174. (refl, (refl, λ x175. refl)))))))), λ s84. (refl, (refl, λ x176. (refl, (refl, λ x177. refl)))))))))))))))))))))), λ s60. (refl, ((refl, (refl, λ x178. (refl, ((refl, (refl, λ x179. (refl, (refl, λ x180. (refl, (refl, λ x181. refl)))))), (refl, ((refl, (refl, λ x182. (refl, (refl, λ x183. (refl, (refl, λ x184. refl)))))), refl)))))), refl))))))))))))))))))))))))))))))), λ s2. (refl, (λ s87. (refl, λ x185 r185 e185. (refl, (λ s89. (refl, (refl, λ x186 r186 e186. (refl, (refl, λ x187 r187 e187. (refl, (refl, λ x188 r188 e188. (refl, (refl, λ x189 r189 e189. (refl, text_after false end (both (piece x1) (both (piece x185) (both (piece x186) (both (piece x187) (both (piece x188) (piece x189))))))))))))))), λ s90. (refl, (λ s91. (refl, (refl, λ x190 r190 e190. (refl, (refl, λ x191 r191 e191. (refl, (refl, λ x192 r192 e192. (refl, (refl, λ x193 r193 e193. (refl, (refl, λ x194 r194 e194. (refl, text_after false end (both (piece x1) (both (piece x185) (both (piece x190) (both (piece x191) (both (piece x192) (both (piece x193) (piece x194)))))))))))))))))), λ s92. (refl, (λ s93. (refl, (refl, λ x195 r195 e195. (refl, (refl, λ x196 r196 e196. (refl, (refl, λ x197 r197 e197. (refl, (refl, λ x198 r198 e198. (refl, (refl, λ x199 r199 e199. (refl, text_after false end (both (piece x1) (both (piece x185) (both (piece x195) (both (piece x196) (both (piece x197) (both (piece x198) (piece x199)))))))))))))))))), λ s94. (refl, (λ s95. (refl, λ x200 r200 e200. (refl, λ x201 r201 e201. (refl, λ x202 r202 e202. (refl, (λ s97. (refl, (refl, λ x203. (refl, (refl, λ x204. (refl, (refl, λ x205. (refl, (refl, λ x206. refl)))))))), λ s98. clause_meets false (λ x207 x208 x209 x210 x211. (item_of type_item x1 (parts (x185 ∷ hidden ∷ x200 ∷ x201 ∷ x202 ∷ hidden ∷ Such (parts (x207 ∷ x208 ∷ x209 ∷ x210 ∷ [])) ∷ x211 ∷ [])))) _ r202 (λ x207 x208 x209 x210 x211. text_after false end (both (piece x1) (both (piece x185) (both none (both (piece x200) (both (piece x201) (both (piece x202) (both none (both (both (piece x207) (both (piece x208) (both (piece x209) (piece x210)))) (piece x211))))))))))))))), λ s96. (refl, (λ s99. (refl, λ x213 r213 e213. (refl, λ x214 r214 e214. (refl, λ x215 r215 e215. (refl, (λ s101. (refl, λ x216 r216 e216. (refl, λ x217 r217 e217. (refl, (λ s103. (refl, (refl, λ x218 r218 e218. (refl, (refl, λ x219 r219 e219. (refl, (refl, λ x220 r220 e220. (refl, text_after false end (both (piece x1) (both (piece x185) (both (piece x213) (both (piece x214) (both (piece x215) (both (piece x216) (both (piece x217) (both (piece x218) (both (piece x219) (piece x220))))))))))))))))), λ s104. (refl, (refl, λ x221. refl)))))), λ s102. (refl, (refl, λ x222. (refl, (refl, λ x223. (refl, (refl, λ x224. refl))))))))))), λ s100. (refl, (λ s105. (refl, λ x225 r225 e225. (refl, (λ s107. rooted_meets false _ _ _ _ _ r225 (λ x226 r226 e226. (refl, (refl, λ x227. refl))) (λ x226 r226 e226. (refl, (refl, λ x228 r228 e228. (refl, text_after false end (both (piece x1) (both (piece x185) (both (piece x225) (both (piece x226) (piece x228))))))))), λ s108. (refl, (refl, λ x229 r229 e229. (refl, (refl, λ x230 r230 e230. (refl, (refl, λ x231 r231 e231. (refl, text_after false end (both (piece x1) (both (piece x185) (both (piece x225) (both (both (piece x229) (piece x230)) (piece x231))))))))))))))), λ s106. (refl, (λ s109. (refl, (refl, λ x232 r232 e232. (refl, (refl, λ x233 r233 e233. (refl, (λ s111. (refl, (refl, λ x234 r234 e234. (refl, text_after false end (both (piece x1) (both (piece x185) (both none (both (piece x232) (both (piece x233) (piece x234))))))))), λ s112. (refl, (refl, λ x235 r235 e235. (refl, text_after false end (both (piece x1) (both (piece x185) (both none (both (piece x232) (both (piece x233) (both none (piece x235)))))))))))))))), λ s110. (refl, (λ s113. (refl, (refl, λ x236 r236 e236. (refl, (refl, λ x237 r237 e237. (refl, (refl, λ x238 r238 e238. (refl, (λ s115. (refl, (refl, λ x239 r239 e239. (refl, (refl, λ x240 r240 e240. (refl, (refl, λ x241 r241 e241. (refl, (refl, λ x242 r242 e242. (refl, text_after false end (both (piece x1) (both (piece x185) (both (piece x236) (both (piece x237) (both (piece x238) (both (piece x239) (both (piece x240) (both (piece x241) (piece x242)))))))))))))))))), λ s116. (refl, (refl, λ x243 r243 e243. (refl, (refl, λ x244 r244 e244. (refl, (refl, λ x245 r245 e245. (refl, text_after false end (both (piece x1) (both (piece x185) (both none (both none (both none (both (piece x236) (both (piece x237) (both (piece x238) (both (piece x243) (both (piece x244) (piece x245)))))))))))))))))))))))))), λ s114. (refl, (λ s117. (refl, (refl, λ x246 r246 e246. (refl, (refl, λ x247 r247 e247. (refl, (refl, λ x248 r248 e248. (refl, (refl, λ x249 r249 e249. (refl, (refl, λ x250 r250 e250. (refl, (refl, λ x251 r251 e251. (refl, (refl, λ x252 r252 e252. (refl, text_after false end (both (piece x1) (both (piece x185) (both none (both none (both (piece x246) (both (piece x247) (both (piece x248) (both (piece x249) (both (piece x250) (both (piece x251) (piece x252)))))))))))))))))))))))))), λ s118. (refl, (λ s119. (refl, (refl, λ x253. (refl, (refl, λ x254. (refl, (refl, λ x255. (refl, (refl, λ x256. refl)))))))), λ s120. (refl, (λ s121. (refl, λ x257 r257 e257. (refl, (λ s123. (refl, (refl, λ x258. refl)), λ s124. (refl, (refl, λ x259 r259 e259. (refl, text_after false end (both (piece x1) (both (piece x185) (both none (both (piece x257) (piece x259))))))))))), λ s122. (refl, (λ s125. (refl, λ x260 r260 e260. (refl, (λ s127. (refl, (refl, λ x261 r261 e261. (refl, (refl, λ x262 r262 e262. (refl, (refl, λ x263 r263 e263. (refl, (refl, λ x264 r264 e264. (refl, text_after false end (both (piece x1) (both (piece x185) (both (piece x260) (both (piece x261) (both (piece x262) (both (piece x263) (piece x264)))))))))))))))), λ s128. (refl, λ x265 r265 e265. (refl, λ x266 r266 e266. (refl, (λ s129. (refl, (refl, λ x267. refl)), λ s130. (refl, (refl, λ x268 r268 e268. (refl, text_after false end (both (piece x1) (both (piece x185) (both none (both (both none (both none (both none (both (both (piece x260) (piece x265)) (piece x266))))) (piece x268))))))))))))))), λ s126. (refl, (λ s131. (refl, λ x269 r269 e269. (refl, (λ s133. (refl, (refl, λ x270 r270 e270. (refl, (refl, λ x271 r271 e271. (refl, (λ s135. (refl, (refl, λ x272 r272 e272. (refl, text_after false end (both (piece x1) (both (piece x185) (both (piece x269) (both (piece x270) (both (piece x271) (piece x272))))))))), λ s136. (refl, (refl, λ x273 r273 e273. (refl, text_after false end (both (piece x1) (both (piece x185) (both (piece x269) (both (piece x270) (both (piece x271) (both none (piece x273)))))))))))))))), λ s134. (refl, (λ s137. (refl, (refl, λ x274 r274 e274. (refl, (refl, λ x275 r275 e275. (refl, (refl, λ x276 r276 e276. (refl, (refl, λ x277 r277 e277. (refl, (refl, λ x278 r278 e278. (refl, (refl, λ x279 r279 e279. (refl, (refl, λ x280 r280 e280. (refl, text_after false end (both (piece x1) (both (piece x185) (both none (both (piece x269) (both (piece x274) (both (piece x275) (both (piece x276) (both (piece x277) (both (piece x278) (both (piece x279) (piece x280)))))))))))))))))))))))))), λ s138. (refl, (λ s139. (refl, λ x281 r281 e281. (refl, λ x282 r282 e282. (refl, λ x283 r283 e283. (refl, (λ s141. (refl, (refl, λ x284. refl)), λ s142. (refl, (refl, λ x285 r285 e285. (refl, text_after false end (both (piece x1) (both (piece x185) (both none (both (both none (both none (both (untagged x269) (both (both (piece x281) (piece x282)) (piece x283))))) (piece x285))))))))))))), λ s140. (refl, λ x286 r286 e286. (refl, (λ s143. (refl, (refl, λ x287. refl)), λ s144. (refl, (refl, λ x288 r288 e288. (refl, text_after false end (both (piece x1) (both (piece x185) (both none (both (both none (both none (both (untagged x269) (both none (piece x286))))) (piece x288)))))))))))))))))), λ s132. (refl, (λ s145. (refl, λ x289 r289 e289. (refl, (λ s147. (refl, λ x290 r290 e290. (refl, (λ s149. (refl, (refl, λ x291 r291 e291. (refl, (refl, λ x292 r292 e292. (refl, (refl, λ x293 r293 e293. (refl, (refl, λ x294 r294 e294. (refl, (refl, λ x295 r295 e295. (refl, (refl, λ x296 r296 e296. (refl, (refl, λ x297 r297 e297. (refl, text_after false end (both (piece x1) (both (piece x185) (both (piece x289) (both (piece x290) (both (piece x291) (both (piece x292) (both (piece x293) (both (piece x294) (both (piece x295) (both (piece x296) (piece x297)))))))))))))))))))))))))), λ s150. (refl, (λ s151. refl, λ s152. (refl, λ x298 r298 e298. (refl, λ x299 r299 e299. (refl, (λ s153. (refl, (refl, λ x300. refl)), λ s154. (refl, (refl, λ x301 r301 e301. (refl, text_after false end (both (piece x1) (both (piece x185) (both none (both (both (piece x289) (both none (both (untagged x290) (both (piece x298) (piece x299))))) (piece x301))))))))))))))))), λ s148. (refl, (λ s155. (refl, λ x302 r302 e302. (refl, λ x303 r303 e303. (refl, λ x304 r304 e304. (refl, (λ s157. (refl, (refl, λ x305. (refl, (refl, λ x306. (refl, (refl, λ x307. (refl, (refl, λ x308. refl)))))))), λ s158. (refl, (refl, λ x309 r309 e309. (refl, (refl, λ x310 r310 e310. (refl, (refl, λ x311 r311 e311. (refl, text_after false end (both (piece x1) (both (piece x185) (both (piece x289) (both none (both none (both (piece x302) (both (piece x303) (both (piece x304) (both (piece x309) (both (piece x310) (piece x311))))))))))))))))))))))), λ s156. (refl, (λ s159. (refl, (refl, λ x312 r312 e312. (refl, (refl, λ x313 r313 e313. (refl, (refl, λ x314 r314 e314. (refl, (refl, λ x315 r315 e315. (refl, (refl, λ x316 r316 e316. (refl, (refl, λ x317 r317 e317. (refl, (refl, λ x318 r318 e318. (refl, text_after false end (both (piece x1) (both (piece x185) (both (piece x289) (both none (both (piece x312) (both (piece x313) (both (piece x314) (both (piece x315) (both (piece x316) (both (piece x317) (piece x318)))))))))))))))))))))))))), λ s160. (refl, (λ s161. refl, λ s162. (refl, (λ s163. (refl, λ x319 r319 e319. (refl, λ x320 r320 e320. (refl, λ x321 r321 e321. (refl, λ x322 r322 e322. (refl, (λ s165. (refl, (refl, λ x323. refl)), λ s166. (refl, (refl, λ x324 r324 e324. (refl, text_after false end (both (piece x1) (both (piece x185) (both none (both (both (piece x289) (both (piece x319) (both (piece x320) (both (piece x321) (piece x322))))) (piece x324)))))))))))))), λ s164. (refl, λ x325 r325 e325. (refl, (λ s167. (refl, (refl, λ x326. (refl, (refl, λ x327. (refl, (refl, λ x328. (refl, (refl, λ x329. (refl, (refl, λ x330. (refl, (refl, λ x331. refl)))))))))))), λ s168. (refl, λ x332 r332 e332. (refl, λ x333 r333 e333. (refl, (λ s169. (refl, λ x334 r334 e334. (refl, λ x335 r335 e335. (refl, (λ s171. (refl, (refl, λ x336 r336 e336. (refl, text_after false end (both (piece x1) (both (piece x185) (both none (both (piece x289) (both (piece x325) (both none (both (piece x332) (both (piece x333) (both (piece x334) (both (piece x335) (piece x336)))))))))))))), λ s172. (refl, (refl, λ x337. (refl, (refl, λ x338. refl)))))))), λ s170. (refl, (refl, λ x339. (refl, (refl, λ x340. refl)))))))))))))))))))))), λ s146. (refl, ((refl, (refl, λ x341. (refl, ((refl, (refl, λ x342. (refl, (refl, λ x343. (refl, (refl, λ x344. refl)))))), (refl, ((refl, (refl, λ x345. (refl, (refl, λ x346. (refl, (refl, λ x347. refl)))))), refl)))))), refl))))))))))))))))))))))))))))))), λ s88. (refl, (λ s173. (refl, (refl, λ x348 r348 e348. (refl, (refl, λ x349 r349 e349. (refl, (refl, λ x350 r350 e350. (refl, (refl, λ x351 r351 e351. (refl, text_after false end (both (piece x1) (both none (both (piece x348) (both (piece x349) (both (piece x350) (piece x351))))))))))))))), λ s174. (refl, (λ s175. (refl, (refl, λ x352 r352 e352. (refl, (refl, λ x353 r353 e353. (refl, (refl, λ x354 r354 e354. (refl, (refl, λ x355 r355 e355. (refl, (refl, λ x356 r356 e356. (refl, text_after false end (both (piece x1) (both none (both (piece x352) (both (piece x353) (both (piece x354) (both (piece x355) (piece x356)))))))))))))))))), λ s176. (refl, (λ s177. (refl, (refl, λ x357 r357 e357. (refl, (refl, λ x358 r358 e358. (refl, (refl, λ x359 r359 e359. (refl, (refl, λ x360 r360 e360. (refl, (refl, λ x361 r361 e361. (refl, text_after false end (both (piece x1) (both none (both (piece x357) (both (piece x358) (both (piece x359) (both (piece x360) (piece x361)))))))))))))))))), λ s178. (refl, (λ s179. (refl, λ x362 r362 e362. (refl, λ x363 r363 e363. (refl, λ x364 r364 e364. (refl, (λ s181. (refl, (refl, λ x365. (refl, (refl, λ x366. (refl, (refl, λ x367. (refl, (refl, λ x368. refl)))))))), λ s182. clause_meets false (λ x369 x370 x371 x372 x373. (item_of type_item x1 (parts (inherited ∷ hidden ∷ x362 ∷ x363 ∷ x364 ∷ hidden ∷ Such (parts (x369 ∷ x370 ∷ x371 ∷ x372 ∷ [])) ∷ x373 ∷ [])))) _ r364 (λ x369 x370 x371 x372 x373. text_after false end (both (piece x1) (both none (both none (both (piece x362) (both (piece x363) (both (piece x364) (both none (both (both (piece x369) (both (piece x370) (both (piece x371) (piece x372)))) (piece x373))))))))))))))), λ s180. (refl, (λ s183. (refl, λ x375 r375 e375. (refl, λ x376 r376 e376. (refl, λ x377 r377 e377. (refl, (λ s185. (refl, λ x378 r378 e378. (refl, λ x379 r379 e379. (refl, (λ s187. (refl, (refl, λ x380 r380 e380. (refl, (refl, λ x381 r381 e381. (refl, (refl, λ x382 r382 e382. (refl, text_after false end (both (piece x1) (both none (both (piece x375) (both (piece x376) (both (piece x377) (both (piece x378) (both (piece x379) (both (piece x380) (both (piece x381) (piece x382))))))))))))))))), λ s188. (refl, (refl, λ x383. refl)))))), λ s186. (refl, (refl, λ x384. (refl, (refl, λ x385. (refl, (refl, λ x386. refl))))))))))), λ s184. (refl, (λ s189. (refl, λ x387 r387 e387. (refl, (λ s191. rooted_meets false _ _ _ _ _ r387 (λ x388 r388 e388. (refl, (refl, λ x389. refl))) (λ x388 r388 e388. (refl, (refl, λ x390 r390 e390. (refl, text_after false end (both (piece x1) (both none (both (piece x387) (both (piece x388) (piece x390))))))))), λ s192. (refl, (refl, λ x391 r391 e391. (refl, (refl, λ x392 r392 e392. (refl, (refl, λ x393 r393 e393. (refl, text_after false end (both (piece x1) (both none (both (piece x387) (both (both (piece x391) (piece x392)) (piece x393))))))))))))))), λ s190. (refl, (λ s193. (refl, (refl, λ x394 r394 e394. (refl, (refl, λ x395 r395 e395. (refl, (λ s195. (refl, (refl, λ x396 r396 e396. (refl, text_after false end (both (piece x1) (both none (both none (both (piece x394) (both (piece x395) (piece x396))))))))), λ s196. (refl, (refl, λ x397 r397 e397. (refl, text_after false end (both (piece x1) (both none (both none (both (piece x394) (both (piece x395) (both none (piece x397)))))))))))))))), λ s194. (refl, (λ s197. (refl, (refl, λ x398 r398 e398. (refl, (refl, λ x399 r399 e399. (refl, (refl, λ x400 r400 e400. (refl, (λ s199. (refl, (refl, λ x401 r401 e401. (refl, (refl, λ x402 r402 e402. (refl, (refl, λ x403 r403 e403. (refl, (refl, λ x404 r404 e404. (refl, text_after false end (both (piece x1) (both none (both (piece x398) (both (piece x399) (both (piece x400) (both (piece x401) (both (piece x402) (both (piece x403) (piece x404)))))))))))))))))), λ s200. (refl, (refl, λ x405 r405 e405. (refl, (refl, λ x406 r406 e406. (refl, (refl, λ x407 r407 e407. (refl, text_after false end (both (piece x1) (both none (both none (both none (both none (both (piece x398) (both (piece x399) (both (piece x400) (both (piece x405) (both (piece x406) (piece x407)))))))))))))))))))))))))), λ s198. (refl, (λ s201. (refl, (refl, λ x408 r408 e408. (refl, (refl, λ x409 r409 e409. (refl, (refl, λ x410 r410 e410. (refl, (refl, λ x411 r411 e411. (refl, (refl, λ x412 r412 e412. (refl, (refl, λ x413 r413 e413. (refl, (refl, λ x414 r414 e414. (refl, text_after false end (both (piece x1) (both none (both none (both none (both (piece x408) (both (piece x409) (both (piece x410) (both (piece x411) (both (piece x412) (both (piece x413) (piece x414)))))))))))))))))))))))))), λ s202. (refl, (λ s203. (refl, (refl, λ x415. (refl, (refl, λ x416. (refl, (refl, λ x417. (refl, (refl, λ x418. refl)))))))), λ s204. (refl, (λ s205. (refl, λ x419 r419 e419. (refl, (λ s207. (refl, (refl, λ x420. refl)), λ s208. (refl, (refl, λ x421 r421 e421. (refl, text_after false end (both (piece x1) (both none (both none (both (piece x419) (piece x421))))))))))), λ s206. (refl, (λ s209. (refl, λ x422 r422 e422. (refl, (λ s211. (refl, (refl, λ x423 r423 e423. (refl, (refl, λ x424 r424 e424. (refl, (refl, λ x425 r425 e425. (refl, (refl, λ x426 r426 e426. (refl, text_after false end (both (piece x1) (both none (both (piece x422) (both (piece x423) (both (piece x424) (both (piece x425) (piece x426)))))))))))))))), λ s212. (refl, λ x427 r427 e427. (refl, (λ s213. (refl, (refl, λ x428 r428 e428. (refl, text_after false end (both (piece x1) (both none (both (both (piece x422) (piece x427)) (piece x428))))))), λ s214. (refl, λ x429 r429 e429. (refl, (λ s215. (refl, (refl, λ x430. refl)), λ s216. (refl, (refl, λ x431 r431 e431. (refl, text_after false end (both (piece x1) (both none (both none (both (both none (both none (both none (both (both (piece x422) (piece x427)) (piece x429))))) (piece x431))))))))))))))))), λ s210. (refl, (λ s217. (refl, λ x432 r432 e432. (refl, (λ s219. (refl, (refl, λ x433 r433 e433. (refl, (refl, λ x434 r434 e434. (refl, (λ s221. (refl, (refl, λ x435 r435 e435. (refl, text_after false end (both (piece x1) (both none (both (piece x432) (both (piece x433) (both (piece x434) (piece x435))))))))), λ s222. (refl, (refl, λ x436 r436 e436. (refl, text_after false end (both (piece x1) (both none (both (piece x432) (both (piece x433) (both (piece x434) (both none (piece x436)))))))))))))))), λ s220. (refl, (λ s223. (refl, (refl, λ x437 r437 e437. (refl, (refl, λ x438 r438 e438. (refl, (refl, λ x439 r439 e439. (refl, (refl, λ x440 r440 e440. (refl, (refl, λ x441 r441 e441. (refl, (refl, λ x442 r442 e442. (refl, (refl, λ x443 r443 e443. (refl, text_after false end (both (piece x1) (both none (both none (both (piece x432) (both (piece x437) (both (piece x438) (both (piece x439) (both (piece x440) (both (piece x441) (both (piece x442) (piece x443)))))))))))))))))))))))))), λ s224. (refl, (λ s225. (refl, λ x444 r444 e444. item_impl_meets false (λ z. item_of impl_definition x1 (parts (absent ∷ absent ∷ (Left x432) ∷ x444 ∷ z ∷ []))) _ r444 (λ z. text_after false end (both (piece x1) (both none (both none (both (piece x432) (both (piece x444) (piece z)))))))), λ s226. (refl, (λ s227. (refl, λ x445 r445 e445. (refl, λ x446 r446 e446. (refl, (λ s229. (refl, (refl, λ x447 r447 e447. (refl, text_after false end (both (piece x1) (both (piece x432) (both (both (piece x445) (piece x446)) (piece x447))))))), λ s230. (refl, λ x448 r448 e448. (refl, (λ s231. (refl, (refl, λ x449. refl)), λ s232. (refl, (refl, λ x450 r450 e450. (refl, text_after false end (both (piece x1) (both none (both none (both (both none (both none (both (untagged x432) (both (both (piece x445) (piece x446)) (piece x448))))) (piece x450))))))))))))))), λ s228. (refl, λ x451 r451 e451. (refl, (λ s233. (refl, (refl, λ x452. refl)), λ s234. (refl, (refl, λ x453 r453 e453. (refl, text_after false end (both (piece x1) (both none (both none (both (both none (both none (both (untagged x432) (both none (piece x451))))) (piece x453)))))))))))))))))))), λ s218. (refl, (λ s235. (refl, λ x454 r454 e454. (refl, (λ s237. (refl, λ x455 r455 e455. (refl, (λ s239. (refl, (refl, λ x456 r456 e456. (refl, (refl, λ x457 r457 e457. (refl, (refl, λ x458 r458 e458. (refl, (refl, λ x459 r459 e459. (refl, (refl, λ x460 r460 e460. (refl, (refl, λ x461 r461 e461. (refl, (refl, λ x462 r462 e462. (refl, text_after false end (both (piece x1) (both none (both (piece x454) (both (piece x455) (both (piece x456) (both (piece x457) (both (piece x458) (both (piece x459) (both (piece x460) (both (piece x461) (piece x462)))))))))))))))))))))))))), λ s240. (refl, (λ s241. (refl, λ x463 r463 e463. item_impl_meets false (λ z. item_of impl_definition x1 (parts (absent ∷ (Left x454) ∷ (Left x455) ∷ x463 ∷ z ∷ []))) _ r463 (λ z. text_after false end (both (piece x1) (both none (both (piece x454) (both (piece x455) (both (piece x463) (piece z)))))))), λ s242. (refl, λ x464 r464 e464. (refl, λ x465 r465 e465. (refl, (λ s243. (refl, (refl, λ x466. refl)), λ s244. (refl, (refl, λ x467 r467 e467. (refl, text_after false end (both (piece x1) (both none (both none (both (both (piece x454) (both none (both (untagged x455) (both (piece x464) (piece x465))))) (piece x467))))))))))))))))), λ s238. (refl, (λ s245. (refl, λ x468 r468 e468. (refl, λ x469 r469 e469. (refl, λ x470 r470 e470. (refl, (λ s247. (refl, (refl, λ x471. (refl, (refl, λ x472. (refl, (refl, λ x473. (refl, (refl, λ x474. refl)))))))), λ s248. (refl, (refl, λ x475 r475 e475. (refl, (refl, λ x476 r476 e476. (refl, (refl, λ x477 r477 e477. (refl, text_after false end (both (piece x1) (both none (both (piece x454) (both none (both none (both (piece x468) (both (piece x469) (both (piece x470) (both (piece x475) (both (piece x476) (piece x477))))))))))))))))))))))), λ s246. (refl, (λ s249. (refl, (refl, λ x478 r478 e478. (refl, (refl, λ x479 r479 e479. (refl, (refl, λ x480 r480 e480. (refl, (refl, λ x481 r481 e481. (refl, (refl, λ x482 r482 e482. (refl, (refl, λ x483 r483 e483. (refl, (refl, λ x484 r484 e484. (refl, text_after false end (both (piece x1) (both none (both (piece x454) (both none (both (piece x478) (both (piece x479) (both (piece x480) (both (piece x481) (both (piece x482) (both (piece x483) (piece x484)))))))))))))))))))))))))), λ s250. (refl, (λ s251. (refl, λ x485 r485 e485. item_impl_meets false (λ z. item_of impl_definition x1 (parts (absent ∷ (Left x454) ∷ absent ∷ x485 ∷ z ∷ []))) _ r485 (λ z. text_after false end (both (piece x1) (both none (both (piece x454) (both none (both (piece x485) (piece z)))))))), λ s252. (refl, (λ s253. (refl, λ x486 r486 e486. (refl, λ x487 r487 e487. (refl, λ x488 r488 e488. (refl, λ x489 r489 e489. (refl, (λ s255. (refl, (refl, λ x490. refl)), λ s256. (refl, (refl, λ x491 r491 e491. (refl, text_after false end (both (piece x1) (both none (both none (both (both (piece x454) (both (piece x486) (both (piece x487) (both (piece x488) (piece x489))))) (piece x491)))))))))))))), λ s254. (refl, λ x492 r492 e492. (refl, (λ s257. (refl, (refl, λ x493. (refl, (refl, λ x494. (refl, (refl, λ x495. (refl, (refl, λ x496. (refl, (refl, λ x497. (refl, (refl, λ x498. refl)))))))))))), λ s258. (refl, λ x499 r499 e499. (refl, λ x500 r500 e500. (refl, (λ s259. (refl, λ x501 r501 e501. (refl, λ x502 r502 e502. (refl, (λ s261. (refl, (refl, λ x503 r503 e503. (refl, text_after false end (both (piece x1) (both none (both none (both (piece x454) (both (piece x492) (both none (both (piece x499) (both (piece x500) (both (piece x501) (both (piece x502) (piece x503)))))))))))))), λ s262. (refl, (refl, λ x504. (refl, (refl, λ x505. refl)))))))), λ s260. (refl, (refl, λ x506. (refl, (refl, λ x507. refl)))))))))))))))))))))), λ s236. (refl, (λ s263. (refl, λ x508 r508 e508. (refl, (λ s265. (refl, (refl, λ x509. (refl, (refl, λ x510. (refl, (refl, λ x511. refl)))))), λ s266. (refl, (λ s267. (refl, λ x512 r512 e512. (refl, (λ s269. (refl, (refl, λ x513. (refl, (refl, λ x514. refl)))), λ s270. (refl, (λ s271. (refl, (refl, λ x515 r515 e515. (refl, lone_text false (λ z. item_of impl_definition x1 (parts (absent ∷ absent ∷ absent ∷ x508 ∷ z ∷ []))) _ _ _ _ x512 x515 (λ z. text_after false end (both (piece x1) (both none (both none (both none (both (piece x508) (piece z))))))) s267 e512 e515))), λ s272. (refl, (refl, λ x516. (refl, (refl, λ x517. refl))))))))), λ s268. item_impl_meets false (λ z. item_of impl_definition x1 (parts (absent ∷ absent ∷ absent ∷ x508 ∷ z ∷ []))) _ r508 (λ z. text_after false end (both (piece x1) (both none (both none (both none (both (piece x508) (piece z)))))))))))), λ s264. (refl, (λ s273. (refl, (λ s275. (refl, (λ s277. refl, λ s278. (refl, (refl, λ x518 r518 e518. (refl, (refl, λ x519 r519 e519. (refl, (refl, λ x520 r520 e520. (refl, (refl, λ x521 r521 e521. (refl, text_after false end (both (piece x1) (both (piece x518) (both (piece x519) (both (piece x520) (piece x521)))))))))))))))), λ s276. (refl, λ x522 r522 e522. (refl, λ x523 r523 e523. (refl, λ x524 r524 e524. (refl, λ x525 r525 e525. item_impl_meets false (λ z. item_of impl_definition x1 (parts ((Left x522) ∷ x523 ∷ x524 ∷ x525 ∷ z ∷ []))) _ r525 (λ z. text_after false end (both (piece x1) (both (piece x522) (both (piece x523) (both (piece x524) (both (piece x525) (piece z))))))))))))), λ s274. (refl, (λ s279. refl, λ s280. (refl, (refl, λ x526 r526 e526. (refl, (refl, λ x527 r527 e527. (refl, (refl, λ x528 r528 e528. (refl, (refl, λ x529 r529 e529. (refl, text_after false end (both (piece x1) (both (piece x526) (both (piece x527) (both (piece x528) (piece x529)))))))))))))))))))))))))))))))))))))))))))))))))))))

pub trait_item_goes : (a : Bool) (m : Stream) → Goes a (planned_course Planned-m.TraitItem) trait_item_plan end m
unfolding function_after_const kept_const kept_end kept_function marked_plan trait_const_plan trait_function_end trait_item_plan
trait_item_goes true m = (refl, λ x1 r1 e1. (refl, (λ s1. (refl, (refl, λ x2. (refl, (refl, λ x3. (refl, ((refl, (refl, λ x4. (refl, (refl, λ x5. (refl, (refl, λ x6. (refl, (refl, λ x7. (refl, (refl, λ x8. (refl, (refl, λ x9. (refl, (refl, λ x10. refl)))))))))))))), (refl, ((refl, (refl, λ x11. (refl, ((refl, (refl, λ x12. (refl, (refl, λ x13. (refl, (refl, λ x14. (refl, (refl, λ x15. (refl, ((refl, (refl, λ x16. refl)), (refl, (refl, λ x17. refl)))))))))))), (refl, (refl, λ x18. (refl, (refl, λ x19. (refl, (refl, λ x20. (refl, (refl, λ x21. (refl, (refl, λ x22. (refl, (refl, λ x23. (refl, (refl, λ x24. refl)))))))))))))))))), (refl, (refl, λ x25. (refl, ((refl, (refl, λ x26. refl)), (refl, (refl, λ x27. refl)))))))))))))), λ s2. (refl, (λ s3. (refl, (refl, λ x28. (refl, ((refl, (refl, λ x29. (refl, ((refl, (refl, λ x30. (refl, (refl, λ x31. (refl, (refl, λ x32. (refl, (refl, λ x33. (refl, (refl, λ x34. (refl, (refl, λ x35. (refl, (refl, λ x36. refl)))))))))))))), (refl, ((refl, (refl, λ x37. (refl, ((refl, (refl, λ x38. (refl, (refl, λ x39. (refl, (refl, λ x40. (refl, (refl, λ x41. (refl, ((refl, (refl, λ x42. refl)), (refl, (refl, λ x43. refl)))))))))))), (refl, (refl, λ x44. (refl, (refl, λ x45. (refl, (refl, λ x46. (refl, (refl, λ x47. (refl, (refl, λ x48. (refl, (refl, λ x49. (refl, (refl, λ x50. refl)))))))))))))))))), (refl, (refl, λ x51. (refl, ((refl, (refl, λ x52. refl)), (refl, (refl, λ x53. refl)))))))))))), (refl, (refl, λ x54. (refl, (refl, λ x55. (refl, ((refl, (refl, λ x56. (refl, (refl, λ x57. (refl, (refl, λ x58. (refl, (refl, λ x59. (refl, (refl, λ x60. (refl, (refl, λ x61. refl)))))))))))), (refl, (refl, λ x62. (refl, (refl, λ x63. (refl, (refl, λ x64. (refl, (refl, λ x65. (refl, (refl, λ x66. refl)))))))))))))))))))), λ s4. (refl, (λ s5. (refl, (refl, λ x67. (refl, ((refl, (refl, λ x68. (refl, (refl, λ x69. (refl, (refl, λ x70. (refl, (refl, λ x71. (refl, (refl, λ x72. (refl, (refl, λ x73. (refl, (refl, λ x74. refl)))))))))))))), (refl, ((refl, (refl, λ x75. (refl, ((refl, (refl, λ x76. (refl, (refl, λ x77. (refl, (refl, λ x78. (refl, (refl, λ x79. (refl, ((refl, (refl, λ x80. refl)), (refl, (refl, λ x81. refl)))))))))))), (refl, (refl, λ x82. (refl, (refl, λ x83. (refl, (refl, λ x84. (refl, (refl, λ x85. (refl, (refl, λ x86. (refl, (refl, λ x87. (refl, (refl, λ x88. refl)))))))))))))))))), (refl, (refl, λ x89. (refl, ((refl, (refl, λ x90. refl)), (refl, (refl, λ x91. refl)))))))))))), λ s6. (refl, (λ s7. (refl, (refl, λ x92 r92 e92. (refl, (refl, λ x93 r93 e93. (refl, (refl, λ x94 r94 e94. (refl, (refl, λ x95 r95 e95. (refl, (refl, λ x96 r96 e96. (refl, (refl, λ x97 r97 e97. (refl, (refl, λ x98 r98 e98. (refl, text_after true end (both (piece x1) (both none (both (piece x92) (both (piece x93) (both (piece x94) (both (piece x95) (both (piece x96) (both (piece x97) (piece x98)))))))))))))))))))))))), λ s8. (refl, (λ s9. (refl, λ x99 r99 e99. (refl, (λ s11. (refl, (refl, λ x100 r100 e100. (refl, (refl, λ x101 r101 e101. (refl, (refl, λ x102 r102 e102. (refl, (refl, λ x103 r103 e103. (refl, (λ s13. (refl, (refl, λ x104 r104 e104. (refl, text_after true end (both (piece x1) (both none (both (both (piece x99) (both (piece x100) (both (piece x101) (both (piece x102) (piece x103))))) (piece x104))))))), λ s14. (refl, (refl, λ x105 r105 e105. (refl, text_after true end (both (piece x1) (both none (both (both (piece x99) (both (piece x100) (both (piece x101) (both (piece x102) (piece x103))))) (both none (piece x105)))))))))))))))))), λ s12. (refl, λ x106 r106 e106. (refl, (λ s15. (refl, (refl, λ x107. (refl, (refl, λ x108. (refl, (refl, λ x109. (refl, (refl, λ x110. (refl, (refl, λ x111. (refl, (refl, λ x112. refl)))))))))))), λ s16. (refl, λ x113 r113 e113. (refl, λ x114 r114 e114. (refl, λ x115 r115 e115. (refl, (λ s17. (refl, (refl, λ x116 r116 e116. (refl, text_after true end (both (piece x1) (both none (both (piece x99) (both (piece x106) (both none (both (piece x113) (both (piece x114) (both (piece x115) (piece x116)))))))))))), λ s18. (refl, (refl, λ x117. (refl, (refl, λ x118. refl))))))))))))))), λ s10. (refl, (λ s19. (refl, (refl, λ x119 r119 e119. (refl, (λ s21. (refl, (refl, λ x120 r120 e120. (refl, text_after true end (both (piece x1) (both none (both (piece x119) (piece x120))))))), λ s22. (refl, (refl, λ x121 r121 e121. (refl, text_after true end (both (piece x1) (both none (both (piece x119) (both none (piece x121)))))))))))), λ s20. (refl, (λ s23. refl, λ s24. (refl, (refl, λ x122 r122 e122. (refl, (refl, λ x123 r123 e123. (refl, (refl, λ x124 r124 e124. (refl, text_after true end (both (piece x1) (both (piece x122) (both (piece x123) (piece x124))))))))))))))))))))))))))
trait_item_goes false m = (refl, λ x1 r1 e1. (refl, (λ s1. (refl, (refl, λ x2. (refl, (refl, λ x3. (refl, ((refl, (refl, λ x4. (refl, (refl, λ x5. (refl, (refl, λ x6. (refl, (refl, λ x7. (refl, (refl, λ x8. (refl, (refl, λ x9. (refl, (refl, λ x10. refl)))))))))))))), (refl, ((refl, (refl, λ x11. (refl, ((refl, (refl, λ x12. (refl, (refl, λ x13. (refl, (refl, λ x14. (refl, (refl, λ x15. (refl, ((refl, (refl, λ x16. refl)), (refl, (refl, λ x17. refl)))))))))))), (refl, (refl, λ x18. (refl, (refl, λ x19. (refl, (refl, λ x20. (refl, (refl, λ x21. (refl, (refl, λ x22. (refl, (refl, λ x23. (refl, (refl, λ x24. refl)))))))))))))))))), (refl, (refl, λ x25. (refl, ((refl, (refl, λ x26. refl)), (refl, (refl, λ x27. refl)))))))))))))), λ s2. (refl, (λ s3. (refl, (refl, λ x28. (refl, ((refl, (refl, λ x29. (refl, ((refl, (refl, λ x30. (refl, (refl, λ x31. (refl, (refl, λ x32. (refl, (refl, λ x33. (refl, (refl, λ x34. (refl, (refl, λ x35. (refl, (refl, λ x36. refl)))))))))))))), (refl, ((refl, (refl, λ x37. (refl, ((refl, (refl, λ x38. (refl, (refl, λ x39. (refl, (refl, λ x40. (refl, (refl, λ x41. (refl, ((refl, (refl, λ x42. refl)), (refl, (refl, λ x43. refl)))))))))))), (refl, (refl, λ x44. (refl, (refl, λ x45. (refl, (refl, λ x46. (refl, (refl, λ x47. (refl, (refl, λ x48. (refl, (refl, λ x49. (refl, (refl, λ x50. refl)))))))))))))))))), (refl, (refl, λ x51. (refl, ((refl, (refl, λ x52. refl)), (refl, (refl, λ x53. refl)))))))))))), (refl, (refl, λ x54. (refl, (refl, λ x55. (refl, ((refl, (refl, λ x56. (refl, (refl, λ x57. (refl, (refl, λ x58. (refl, (refl, λ x59. (refl, (refl, λ x60. (refl, (refl, λ x61. refl)))))))))))), (refl, (refl, λ x62. (refl, (refl, λ x63. (refl, (refl, λ x64. (refl, (refl, λ x65. (refl, (refl, λ x66. refl)))))))))))))))))))), λ s4. (refl, (λ s5. (refl, (refl, λ x67. (refl, ((refl, (refl, λ x68. (refl, (refl, λ x69. (refl, (refl, λ x70. (refl, (refl, λ x71. (refl, (refl, λ x72. (refl, (refl, λ x73. (refl, (refl, λ x74. refl)))))))))))))), (refl, ((refl, (refl, λ x75. (refl, ((refl, (refl, λ x76. (refl, (refl, λ x77. (refl, (refl, λ x78. (refl, (refl, λ x79. (refl, ((refl, (refl, λ x80. refl)), (refl, (refl, λ x81. refl)))))))))))), (refl, (refl, λ x82. (refl, (refl, λ x83. (refl, (refl, λ x84. (refl, (refl, λ x85. (refl, (refl, λ x86. (refl, (refl, λ x87. (refl, (refl, λ x88. refl)))))))))))))))))), (refl, (refl, λ x89. (refl, ((refl, (refl, λ x90. refl)), (refl, (refl, λ x91. refl)))))))))))), λ s6. (refl, (λ s7. (refl, (refl, λ x92 r92 e92. (refl, (refl, λ x93 r93 e93. (refl, (refl, λ x94 r94 e94. (refl, (refl, λ x95 r95 e95. (refl, (refl, λ x96 r96 e96. (refl, (refl, λ x97 r97 e97. (refl, (refl, λ x98 r98 e98. (refl, text_after false end (both (piece x1) (both none (both (piece x92) (both (piece x93) (both (piece x94) (both (piece x95) (both (piece x96) (both (piece x97) (piece x98)))))))))))))))))))))))), λ s8. (refl, (λ s9. (refl, λ x99 r99 e99. (refl, (λ s11. (refl, (refl, λ x100 r100 e100. (refl, (refl, λ x101 r101 e101. (refl, (refl, λ x102 r102 e102. (refl, (refl, λ x103 r103 e103. (refl, (λ s13. (refl, (refl, λ x104 r104 e104. (refl, text_after false end (both (piece x1) (both none (both (both (piece x99) (both (piece x100) (both (piece x101) (both (piece x102) (piece x103))))) (piece x104))))))), λ s14. (refl, (refl, λ x105 r105 e105. (refl, text_after false end (both (piece x1) (both none (both (both (piece x99) (both (piece x100) (both (piece x101) (both (piece x102) (piece x103))))) (both none (piece x105)))))))))))))))))), λ s12. (refl, λ x106 r106 e106. (refl, (λ s15. (refl, (refl, λ x107. (refl, (refl, λ x108. (refl, (refl, λ x109. (refl, (refl, λ x110. (refl, (refl, λ x111. (refl, (refl, λ x112. refl)))))))))))), λ s16. (refl, λ x113 r113 e113. (refl, λ x114 r114 e114. (refl, λ x115 r115 e115. (refl, (λ s17. (refl, (refl, λ x116 r116 e116. (refl, text_after false end (both (piece x1) (both none (both (piece x99) (both (piece x106) (both none (both (piece x113) (both (piece x114) (both (piece x115) (piece x116)))))))))))), λ s18. (refl, (refl, λ x117. (refl, (refl, λ x118. refl))))))))))))))), λ s10. (refl, (λ s19. (refl, (refl, λ x119 r119 e119. (refl, (λ s21. (refl, (refl, λ x120 r120 e120. (refl, text_after false end (both (piece x1) (both none (both (piece x119) (piece x120))))))), λ s22. (refl, (refl, λ x121 r121 e121. (refl, text_after false end (both (piece x1) (both none (both (piece x119) (both none (piece x121)))))))))))), λ s20. (refl, (λ s23. refl, λ s24. (refl, (refl, λ x122 r122 e122. (refl, (refl, λ x123 r123 e123. (refl, (refl, λ x124 r124 e124. (refl, text_after false end (both (piece x1) (both (piece x122) (both (piece x123) (piece x124))))))))))))))))))))))))))

pub impl_item_goes : (a : Bool) (m : Stream) → Goes a (planned_course Planned-m.ImplItem) impl_item_plan end m
unfolding function_after_const impl_const_or_function impl_const_plan impl_function_end impl_item_plan impl_macro_plan impl_member_plan impl_type_plan kept_end
impl_item_goes true m = (refl, λ x1 r1 e1. (refl, (λ s1. (refl, λ x2 r2 e2. (refl, λ x3 r3 e3. (refl, (λ s3. (refl, λ x4 r4 e4. (refl, λ x5 r5 e5. (refl, λ x6 r6 e6. (refl, (λ s5. (refl, (refl, λ x7 r7 e7. (refl, (refl, λ x8 r8 e8. (refl, (refl, λ x9 r9 e9. (refl, (refl, λ x10 r10 e10. (refl, text_after true end (both (piece x1) (both (piece x2) (both (piece x3) (both (piece x4) (both (piece x5) (both (piece x6) (both (piece x7) (both (piece x8) (both (piece x9) (piece x10))))))))))))))))))), λ s6. (refl, ((refl, (refl, λ x11. (refl, (refl, λ x12. (refl, (refl, λ x13. (refl, (refl, λ x14. (refl, (refl, λ x15. refl)))))))))), (refl, (refl, λ x16. (refl, (refl, λ x17. refl))))))))))), λ s4. (refl, (λ s7. (refl, λ x18 r18 e18. (refl, (λ s9. (refl, λ x19 r19 e19. (refl, λ x20 r20 e20. (refl, λ x21 r21 e21. (refl, λ x22 r22 e22. (refl, (λ s11. (refl, (refl, λ x23. refl)), λ s12. (refl, (refl, λ x24 r24 e24. (refl, text_after true end (both (piece x1) (both (piece x2) (both (piece x3) (both (both (piece x18) (both (piece x19) (both (piece x20) (both (piece x21) (piece x22))))) (piece x24)))))))))))))), λ s10. (refl, λ x25 r25 e25. (refl, (λ s13. (refl, (refl, λ x26. (refl, (refl, λ x27. (refl, (refl, λ x28. (refl, (refl, λ x29. (refl, (refl, λ x30. (refl, (refl, λ x31. refl)))))))))))), λ s14. (refl, λ x32 r32 e32. (refl, λ x33 r33 e33. (refl, (λ s15. (refl, λ x34 r34 e34. (refl, λ x35 r35 e35. (refl, (λ s17. (refl, (refl, λ x36 r36 e36. (refl, text_after true end (both (piece x1) (both (piece x2) (both (piece x3) (both (piece x18) (both (piece x25) (both none (both (piece x32) (both (piece x33) (both (piece x34) (both (piece x35) (piece x36)))))))))))))), λ s18. (refl, (refl, λ x37. (refl, (refl, λ x38. refl)))))))), λ s16. (refl, (refl, λ x39. (refl, (refl, λ x40. refl)))))))))))))), λ s8. (refl, λ x41 r41 e41. (refl, (λ s19. (refl, (refl, λ x42. refl)), λ s20. (refl, (refl, λ x43 r43 e43. (refl, text_after true end (both (piece x1) (both (piece x2) (both (piece x3) (both (piece x41) (piece x43))))))))))))))))), λ s2. (refl, (λ s21. (refl, (λ s23. (refl, (λ s25. refl, λ s26. (refl, (refl, λ x44 r44 e44. (refl, (refl, λ x45 r45 e45. (refl, (refl, λ x46 r46 e46. (refl, text_after true end (both (piece x1) (both (piece x44) (both (piece x45) (piece x46))))))))))))), λ s24. (refl, λ x47 r47 e47. (refl, (λ s27. (refl, λ x48 r48 e48. (refl, λ x49 r49 e49. (refl, λ x50 r50 e50. (refl, (λ s29. (refl, (refl, λ x51 r51 e51. (refl, (refl, λ x52 r52 e52. (refl, (refl, λ x53 r53 e53. (refl, (refl, λ x54 r54 e54. (refl, text_after true end (both (piece x1) (both none (both (piece x47) (both (piece x48) (both (piece x49) (both (piece x50) (both (piece x51) (both (piece x52) (both (piece x53) (piece x54))))))))))))))))))), λ s30. (refl, ((refl, (refl, λ x55. (refl, (refl, λ x56. (refl, (refl, λ x57. (refl, (refl, λ x58. (refl, (refl, λ x59. refl)))))))))), (refl, (refl, λ x60. (refl, (refl, λ x61. refl))))))))))), λ s28. (refl, (λ s31. (refl, λ x62 r62 e62. (refl, (λ s33. (refl, λ x63 r63 e63. (refl, λ x64 r64 e64. (refl, λ x65 r65 e65. (refl, λ x66 r66 e66. (refl, (λ s35. (refl, (refl, λ x67. refl)), λ s36. (refl, (refl, λ x68 r68 e68. (refl, text_after true end (both (piece x1) (both none (both (piece x47) (both (both (piece x62) (both (piece x63) (both (piece x64) (both (piece x65) (piece x66))))) (piece x68)))))))))))))), λ s34. (refl, λ x69 r69 e69. (refl, (λ s37. (refl, (refl, λ x70. (refl, (refl, λ x71. (refl, (refl, λ x72. (refl, (refl, λ x73. (refl, (refl, λ x74. (refl, (refl, λ x75. refl)))))))))))), λ s38. (refl, λ x76 r76 e76. (refl, λ x77 r77 e77. (refl, (λ s39. (refl, λ x78 r78 e78. (refl, λ x79 r79 e79. (refl, (λ s41. (refl, (refl, λ x80 r80 e80. (refl, text_after true end (both (piece x1) (both none (both (piece x47) (both (piece x62) (both (piece x69) (both none (both (piece x76) (both (piece x77) (both (piece x78) (both (piece x79) (piece x80)))))))))))))), λ s42. (refl, (refl, λ x81. (refl, (refl, λ x82. refl)))))))), λ s40. (refl, (refl, λ x83. (refl, (refl, λ x84. refl)))))))))))))), λ s32. (refl, λ x85 r85 e85. (refl, (λ s43. (refl, (refl, λ x86. refl)), λ s44. (refl, (refl, λ x87 r87 e87. (refl, text_after true end (both (piece x1) (both none (both (piece x47) (both (piece x85) (piece x87)))))))))))))))))), λ s22. (refl, (λ s45. (refl, λ x88 r88 e88. (refl, λ x89 r89 e89. (refl, λ x90 r90 e90. (refl, (λ s47. (refl, (refl, λ x91 r91 e91. (refl, (refl, λ x92 r92 e92. (refl, (refl, λ x93 r93 e93. (refl, (refl, λ x94 r94 e94. (refl, text_after true end (both (piece x1) (both none (both none (both (piece x88) (both (piece x89) (both (piece x90) (both (piece x91) (both (piece x92) (both (piece x93) (piece x94))))))))))))))))))), λ s48. (refl, ((refl, (refl, λ x95. (refl, (refl, λ x96. (refl, (refl, λ x97. (refl, (refl, λ x98. (refl, (refl, λ x99. refl)))))))))), (refl, (refl, λ x100. (refl, (refl, λ x101. refl))))))))))), λ s46. (refl, (λ s49. (refl, λ x102 r102 e102. (refl, (λ s51. (refl, λ x103 r103 e103. (refl, λ x104 r104 e104. (refl, λ x105 r105 e105. (refl, λ x106 r106 e106. (refl, (λ s53. (refl, (refl, λ x107. refl)), λ s54. (refl, (refl, λ x108 r108 e108. (refl, text_after true end (both (piece x1) (both none (both none (both (both (piece x102) (both (piece x103) (both (piece x104) (both (piece x105) (piece x106))))) (piece x108)))))))))))))), λ s52. (refl, λ x109 r109 e109. (refl, (λ s55. (refl, (refl, λ x110. (refl, (refl, λ x111. (refl, (refl, λ x112. (refl, (refl, λ x113. (refl, (refl, λ x114. (refl, (refl, λ x115. refl)))))))))))), λ s56. (refl, λ x116 r116 e116. (refl, λ x117 r117 e117. (refl, (λ s57. (refl, λ x118 r118 e118. (refl, λ x119 r119 e119. (refl, (λ s59. (refl, (refl, λ x120 r120 e120. (refl, text_after true end (both (piece x1) (both none (both none (both (piece x102) (both (piece x109) (both none (both (piece x116) (both (piece x117) (both (piece x118) (both (piece x119) (piece x120)))))))))))))), λ s60. (refl, (refl, λ x121. (refl, (refl, λ x122. refl)))))))), λ s58. (refl, (refl, λ x123. (refl, (refl, λ x124. refl)))))))))))))), λ s50. (refl, (λ s61. (refl, λ x125 r125 e125. (refl, (λ s63. (refl, (refl, λ x126. refl)), λ s64. (refl, (refl, λ x127 r127 e127. (refl, text_after true end (both (piece x1) (both none (both none (both (piece x125) (piece x127))))))))))), λ s62. (refl, (λ s65. refl, λ s66. (refl, (refl, λ x128 r128 e128. (refl, (refl, λ x129 r129 e129. (refl, (refl, λ x130 r130 e130. (refl, text_after true end (both (piece x1) (both (piece x128) (both (piece x129) (piece x130))))))))))))))))))))))))
impl_item_goes false m = (refl, λ x1 r1 e1. (refl, (λ s1. (refl, λ x2 r2 e2. (refl, λ x3 r3 e3. (refl, (λ s3. (refl, λ x4 r4 e4. (refl, λ x5 r5 e5. (refl, λ x6 r6 e6. (refl, (λ s5. (refl, (refl, λ x7 r7 e7. (refl, (refl, λ x8 r8 e8. (refl, (refl, λ x9 r9 e9. (refl, (refl, λ x10 r10 e10. (refl, text_after false end (both (piece x1) (both (piece x2) (both (piece x3) (both (piece x4) (both (piece x5) (both (piece x6) (both (piece x7) (both (piece x8) (both (piece x9) (piece x10))))))))))))))))))), λ s6. (refl, ((refl, (refl, λ x11. (refl, (refl, λ x12. (refl, (refl, λ x13. (refl, (refl, λ x14. (refl, (refl, λ x15. refl)))))))))), (refl, (refl, λ x16. (refl, (refl, λ x17. refl))))))))))), λ s4. (refl, (λ s7. (refl, λ x18 r18 e18. (refl, (λ s9. (refl, λ x19 r19 e19. (refl, λ x20 r20 e20. (refl, λ x21 r21 e21. (refl, λ x22 r22 e22. (refl, (λ s11. (refl, (refl, λ x23. refl)), λ s12. (refl, (refl, λ x24 r24 e24. (refl, text_after false end (both (piece x1) (both (piece x2) (both (piece x3) (both (both (piece x18) (both (piece x19) (both (piece x20) (both (piece x21) (piece x22))))) (piece x24)))))))))))))), λ s10. (refl, λ x25 r25 e25. (refl, (λ s13. (refl, (refl, λ x26. (refl, (refl, λ x27. (refl, (refl, λ x28. (refl, (refl, λ x29. (refl, (refl, λ x30. (refl, (refl, λ x31. refl)))))))))))), λ s14. (refl, λ x32 r32 e32. (refl, λ x33 r33 e33. (refl, (λ s15. (refl, λ x34 r34 e34. (refl, λ x35 r35 e35. (refl, (λ s17. (refl, (refl, λ x36 r36 e36. (refl, text_after false end (both (piece x1) (both (piece x2) (both (piece x3) (both (piece x18) (both (piece x25) (both none (both (piece x32) (both (piece x33) (both (piece x34) (both (piece x35) (piece x36)))))))))))))), λ s18. (refl, (refl, λ x37. (refl, (refl, λ x38. refl)))))))), λ s16. (refl, (refl, λ x39. (refl, (refl, λ x40. refl)))))))))))))), λ s8. (refl, λ x41 r41 e41. (refl, (λ s19. (refl, (refl, λ x42. refl)), λ s20. (refl, (refl, λ x43 r43 e43. (refl, text_after false end (both (piece x1) (both (piece x2) (both (piece x3) (both (piece x41) (piece x43))))))))))))))))), λ s2. (refl, (λ s21. (refl, (λ s23. (refl, (λ s25. refl, λ s26. (refl, (refl, λ x44 r44 e44. (refl, (refl, λ x45 r45 e45. (refl, (refl, λ x46 r46 e46. (refl, text_after false end (both (piece x1) (both (piece x44) (both (piece x45) (piece x46))))))))))))), λ s24. (refl, λ x47 r47 e47. (refl, (λ s27. (refl, λ x48 r48 e48. (refl, λ x49 r49 e49. (refl, λ x50 r50 e50. (refl, (λ s29. (refl, (refl, λ x51 r51 e51. (refl, (refl, λ x52 r52 e52. (refl, (refl, λ x53 r53 e53. (refl, (refl, λ x54 r54 e54. (refl, text_after false end (both (piece x1) (both none (both (piece x47) (both (piece x48) (both (piece x49) (both (piece x50) (both (piece x51) (both (piece x52) (both (piece x53) (piece x54))))))))))))))))))), λ s30. (refl, ((refl, (refl, λ x55. (refl, (refl, λ x56. (refl, (refl, λ x57. (refl, (refl, λ x58. (refl, (refl, λ x59. refl)))))))))), (refl, (refl, λ x60. (refl, (refl, λ x61. refl))))))))))), λ s28. (refl, (λ s31. (refl, λ x62 r62 e62. (refl, (λ s33. (refl, λ x63 r63 e63. (refl, λ x64 r64 e64. (refl, λ x65 r65 e65. (refl, λ x66 r66 e66. (refl, (λ s35. (refl, (refl, λ x67. refl)), λ s36. (refl, (refl, λ x68 r68 e68. (refl, text_after false end (both (piece x1) (both none (both (piece x47) (both (both (piece x62) (both (piece x63) (both (piece x64) (both (piece x65) (piece x66))))) (piece x68)))))))))))))), λ s34. (refl, λ x69 r69 e69. (refl, (λ s37. (refl, (refl, λ x70. (refl, (refl, λ x71. (refl, (refl, λ x72. (refl, (refl, λ x73. (refl, (refl, λ x74. (refl, (refl, λ x75. refl)))))))))))), λ s38. (refl, λ x76 r76 e76. (refl, λ x77 r77 e77. (refl, (λ s39. (refl, λ x78 r78 e78. (refl, λ x79 r79 e79. (refl, (λ s41. (refl, (refl, λ x80 r80 e80. (refl, text_after false end (both (piece x1) (both none (both (piece x47) (both (piece x62) (both (piece x69) (both none (both (piece x76) (both (piece x77) (both (piece x78) (both (piece x79) (piece x80)))))))))))))), λ s42. (refl, (refl, λ x81. (refl, (refl, λ x82. refl)))))))), λ s40. (refl, (refl, λ x83. (refl, (refl, λ x84. refl)))))))))))))), λ s32. (refl, λ x85 r85 e85. (refl, (λ s43. (refl, (refl, λ x86. refl)), λ s44. (refl, (refl, λ x87 r87 e87. (refl, text_after false end (both (piece x1) (both none (both (piece x47) (both (piece x85) (piece x87)))))))))))))))))), λ s22. (refl, (λ s45. (refl, λ x88 r88 e88. (refl, λ x89 r89 e89. (refl, λ x90 r90 e90. (refl, (λ s47. (refl, (refl, λ x91 r91 e91. (refl, (refl, λ x92 r92 e92. (refl, (refl, λ x93 r93 e93. (refl, (refl, λ x94 r94 e94. (refl, text_after false end (both (piece x1) (both none (both none (both (piece x88) (both (piece x89) (both (piece x90) (both (piece x91) (both (piece x92) (both (piece x93) (piece x94))))))))))))))))))), λ s48. (refl, ((refl, (refl, λ x95. (refl, (refl, λ x96. (refl, (refl, λ x97. (refl, (refl, λ x98. (refl, (refl, λ x99. refl)))))))))), (refl, (refl, λ x100. (refl, (refl, λ x101. refl))))))))))), λ s46. (refl, (λ s49. (refl, λ x102 r102 e102. (refl, (λ s51. (refl, λ x103 r103 e103. (refl, λ x104 r104 e104. (refl, λ x105 r105 e105. (refl, λ x106 r106 e106. (refl, (λ s53. (refl, (refl, λ x107. refl)), λ s54. (refl, (refl, λ x108 r108 e108. (refl, text_after false end (both (piece x1) (both none (both none (both (both (piece x102) (both (piece x103) (both (piece x104) (both (piece x105) (piece x106))))) (piece x108)))))))))))))), λ s52. (refl, λ x109 r109 e109. (refl, (λ s55. (refl, (refl, λ x110. (refl, (refl, λ x111. (refl, (refl, λ x112. (refl, (refl, λ x113. (refl, (refl, λ x114. (refl, (refl, λ x115. refl)))))))))))), λ s56. (refl, λ x116 r116 e116. (refl, λ x117 r117 e117. (refl, (λ s57. (refl, λ x118 r118 e118. (refl, λ x119 r119 e119. (refl, (λ s59. (refl, (refl, λ x120 r120 e120. (refl, text_after false end (both (piece x1) (both none (both none (both (piece x102) (both (piece x109) (both none (both (piece x116) (both (piece x117) (both (piece x118) (both (piece x119) (piece x120)))))))))))))), λ s60. (refl, (refl, λ x121. (refl, (refl, λ x122. refl)))))))), λ s58. (refl, (refl, λ x123. (refl, (refl, λ x124. refl)))))))))))))), λ s50. (refl, (λ s61. (refl, λ x125 r125 e125. (refl, (λ s63. (refl, (refl, λ x126. refl)), λ s64. (refl, (refl, λ x127 r127 e127. (refl, text_after false end (both (piece x1) (both none (both none (both (piece x125) (piece x127))))))))))), λ s62. (refl, (λ s65. refl, λ s66. (refl, (refl, λ x128 r128 e128. (refl, (refl, λ x129 r129 e129. (refl, (refl, λ x130 r130 e130. (refl, text_after false end (both (piece x1) (both (piece x128) (both (piece x129) (piece x130))))))))))))))))))))))))

pub foreign_item_goes : (a : Bool) (m : Stream) → Goes a (planned_course Planned-m.ForeignItem) foreign_item_plan end m
unfolding foreign_function_end foreign_item_plan foreign_macro_plan foreign_member_plan foreign_static_plan foreign_type_plan kept_end safety_plan
foreign_item_goes true m = (refl, λ x1 r1 e1. (refl, (λ s1. (refl, λ x2 r2 e2. (refl, (λ s3. (refl, λ x3 r3 e3. (refl, (λ s5. (refl, λ x4 r4 e4. (refl, λ x5 r5 e5. (refl, λ x6 r6 e6. (refl, λ x7 r7 e7. (refl, λ x8 r8 e8. (refl, (λ s7. (refl, (refl, λ x9 r9 e9. (refl, text_after true end (both (piece x1) (both (piece x2) (both (both (piece x3) (both (piece x4) (both (piece x5) (both (piece x6) (both (piece x7) (piece x8)))))) (piece x9))))))), λ s8. (refl, (refl, λ x10. (refl, (refl, λ x11. (refl, (refl, λ x12. refl))))))))))))), λ s6. (refl, λ x13 r13 e13. (refl, λ x14 r14 e14. (refl, (λ s9. (refl, (refl, λ x15 r15 e15. (refl, text_after true end (both (piece x1) (both (piece x2) (both none (both (both none (both none (both (piece x3) (both (piece x13) (piece x14))))) (piece x15)))))))), λ s10. (refl, (refl, λ x16. refl))))))))), λ s4. (refl, (λ s11. (refl, λ x17 r17 e17. (refl, λ x18 r18 e18. (refl, λ x19 r19 e19. (refl, (λ s13. (refl, (refl, λ x20. (refl, (refl, λ x21. (refl, (refl, λ x22. (refl, (refl, λ x23. refl)))))))), λ s14. (refl, (λ s15. (refl, λ x24 r24 e24. (refl, (λ s17. (refl, (refl, λ x25 r25 e25. (refl, text_after true end (both (piece x1) (both (piece x2) (both none (both (piece x17) (both (piece x18) (both (piece x19) (both (piece x24) (piece x25))))))))))), λ s18. (refl, (refl, λ x26. (refl, (refl, λ x27. (refl, (refl, λ x28. refl))))))))), λ s16. (refl, (λ s19. (refl, (refl, λ x29 r29 e29. (refl, text_after true end (both (piece x1) (both (piece x2) (both none (both (piece x17) (both (piece x18) (both (piece x19) (both none (piece x29))))))))))), λ s20. (refl, (refl, λ x30. (refl, (refl, λ x31. (refl, (refl, λ x32. (refl, (refl, λ x33. refl))))))))))))))))), λ s12. (refl, (λ s21. (refl, λ x34 r34 e34. (refl, λ x35 r35 e35. (refl, λ x36 r36 e36. (refl, λ x37 r37 e37. (refl, λ x38 r38 e38. (refl, (λ s23. (refl, (refl, λ x39 r39 e39. (refl, text_after true end (both (piece x1) (both (piece x2) (both (both none (both (piece x34) (both (piece x35) (both (piece x36) (both (piece x37) (piece x38)))))) (piece x39))))))), λ s24. (refl, (refl, λ x40. (refl, (refl, λ x41. (refl, (refl, λ x42. refl))))))))))))), λ s22. (refl, (λ s25. (refl, λ x43 r43 e43. (refl, (λ s27. (refl, λ x44 r44 e44. (refl, λ x45 r45 e45. (refl, λ x46 r46 e46. (refl, λ x47 r47 e47. (refl, λ x48 r48 e48. (refl, (λ s29. (refl, (refl, λ x49 r49 e49. (refl, text_after true end (both (piece x1) (both (piece x2) (both (both (piece x43) (both (piece x44) (both (piece x45) (both (piece x46) (both (piece x47) (piece x48)))))) (piece x49))))))), λ s30. (refl, (refl, λ x50. (refl, (refl, λ x51. (refl, (refl, λ x52. refl))))))))))))), λ s28. (refl, λ x53 r53 e53. (refl, λ x54 r54 e54. (refl, (λ s31. (refl, (refl, λ x55 r55 e55. (refl, text_after true end (both (piece x1) (both (piece x2) (both none (both (both none (both none (both (piece x43) (both (piece x53) (piece x54))))) (piece x55)))))))), λ s32. (refl, (refl, λ x56. refl))))))))), λ s26. (refl, (λ s33. (refl, λ x57 r57 e57. (refl, (λ s35. (refl, (refl, λ x58 r58 e58. (refl, text_after true end (both (piece x1) (both (piece x2) (both none (both (piece x57) (piece x58)))))))), λ s36. (refl, (refl, λ x59. refl))))), λ s34. refl))))))))))), λ s2. (refl, (λ s37. (refl, (λ s39. (refl, (λ s41. refl, λ s42. (refl, (refl, λ x60 r60 e60. (refl, (refl, λ x61 r61 e61. (refl, (refl, λ x62 r62 e62. (refl, text_after true end (both (piece x1) (both (piece x60) (both (piece x61) (piece x62))))))))))))), λ s40. (refl, (λ s43. (refl, (λ s45. refl, λ s46. (refl, (refl, λ x63 r63 e63. (refl, (refl, λ x64 r64 e64. (refl, (refl, λ x65 r65 e65. (refl, text_after true end (both (piece x1) (both (piece x63) (both (piece x64) (piece x65))))))))))))), λ s44. (refl, λ x66 r66 e66. (refl, (λ s47. (refl, λ x67 r67 e67. (refl, λ x68 r68 e68. (refl, λ x69 r69 e69. (refl, λ x70 r70 e70. (refl, λ x71 r71 e71. (refl, (λ s49. (refl, (refl, λ x72 r72 e72. (refl, text_after true end (both (piece x1) (both none (both (both (piece x66) (both (piece x67) (both (piece x68) (both (piece x69) (both (piece x70) (piece x71)))))) (piece x72))))))), λ s50. (refl, (refl, λ x73. (refl, (refl, λ x74. (refl, (refl, λ x75. refl))))))))))))), λ s48. (refl, λ x76 r76 e76. (refl, λ x77 r77 e77. (refl, (λ s51. (refl, (refl, λ x78 r78 e78. (refl, text_after true end (both (piece x1) (both none (both none (both (both none (both none (both (piece x66) (both (piece x76) (piece x77))))) (piece x78)))))))), λ s52. (refl, (refl, λ x79. refl))))))))))))), λ s38. (refl, (λ s53. (refl, λ x83 r83 e83. (refl, λ x84 r84 e84. (refl, λ x85 r85 e85. (refl, (λ s55. (refl, (refl, λ x86. (refl, (refl, λ x87. (refl, (refl, λ x88. (refl, (refl, λ x89. refl)))))))), λ s56. (refl, (λ s57. (refl, λ x90 r90 e90. (refl, (λ s59. (refl, (refl, λ x91 r91 e91. (refl, text_after true end (both (piece x1) (both none (both none (both (piece x83) (both (piece x84) (both (piece x85) (both (piece x90) (piece x91))))))))))), λ s60. (refl, (refl, λ x92. (refl, (refl, λ x93. (refl, (refl, λ x94. refl))))))))), λ s58. (refl, (λ s61. (refl, (refl, λ x95 r95 e95. (refl, text_after true end (both (piece x1) (both none (both none (both (piece x83) (both (piece x84) (both (piece x85) (both none (piece x95))))))))))), λ s62. (refl, (refl, λ x96. (refl, (refl, λ x97. (refl, (refl, λ x98. (refl, (refl, λ x99. refl))))))))))))))))), λ s54. (refl, (λ s63. (refl, λ x100 r100 e100. (refl, λ x101 r101 e101. (refl, λ x102 r102 e102. (refl, λ x103 r103 e103. (refl, λ x104 r104 e104. (refl, (λ s65. (refl, (refl, λ x105 r105 e105. (refl, text_after true end (both (piece x1) (both none (both (both none (both (piece x100) (both (piece x101) (both (piece x102) (both (piece x103) (piece x104)))))) (piece x105))))))), λ s66. (refl, (refl, λ x106. (refl, (refl, λ x107. (refl, (refl, λ x108. refl))))))))))))), λ s64. (refl, (λ s67. (refl, λ x109 r109 e109. (refl, (λ s69. (refl, λ x110 r110 e110. (refl, λ x111 r111 e111. (refl, λ x112 r112 e112. (refl, λ x113 r113 e113. (refl, λ x114 r114 e114. (refl, (λ s71. (refl, (refl, λ x115 r115 e115. (refl, text_after true end (both (piece x1) (both none (both (both (piece x109) (both (piece x110) (both (piece x111) (both (piece x112) (both (piece x113) (piece x114)))))) (piece x115))))))), λ s72. (refl, (refl, λ x116. (refl, (refl, λ x117. (refl, (refl, λ x118. refl))))))))))))), λ s70. (refl, λ x119 r119 e119. (refl, λ x120 r120 e120. (refl, (λ s73. (refl, (refl, λ x121 r121 e121. (refl, text_after true end (both (piece x1) (both none (both none (both (both none (both none (both (piece x109) (both (piece x119) (piece x120))))) (piece x121)))))))), λ s74. (refl, (refl, λ x122. refl))))))))), λ s68. (refl, (λ s75. (refl, λ x123 r123 e123. (refl, (λ s77. (refl, (refl, λ x124 r124 e124. (refl, text_after true end (both (piece x1) (both none (both none (both (piece x123) (piece x124)))))))), λ s78. (refl, (refl, λ x125. refl))))), λ s76. (refl, (λ s79. refl, λ s80. (refl, (refl, λ x80 r80 e80. (refl, (refl, λ x81 r81 e81. (refl, (refl, λ x82 r82 e82. (refl, text_after true end (both (piece x1) (both (piece x80) (both (piece x81) (piece x82))))))))))))))))))))))))))
foreign_item_goes false m = (refl, λ x1 r1 e1. (refl, (λ s1. (refl, λ x2 r2 e2. (refl, (λ s3. (refl, λ x3 r3 e3. (refl, (λ s5. (refl, λ x4 r4 e4. (refl, λ x5 r5 e5. (refl, λ x6 r6 e6. (refl, λ x7 r7 e7. (refl, λ x8 r8 e8. (refl, (λ s7. (refl, (refl, λ x9 r9 e9. (refl, text_after false end (both (piece x1) (both (piece x2) (both (both (piece x3) (both (piece x4) (both (piece x5) (both (piece x6) (both (piece x7) (piece x8)))))) (piece x9))))))), λ s8. (refl, (refl, λ x10. (refl, (refl, λ x11. (refl, (refl, λ x12. refl))))))))))))), λ s6. (refl, λ x13 r13 e13. (refl, λ x14 r14 e14. (refl, (λ s9. (refl, (refl, λ x15 r15 e15. (refl, text_after false end (both (piece x1) (both (piece x2) (both none (both (both none (both none (both (piece x3) (both (piece x13) (piece x14))))) (piece x15)))))))), λ s10. (refl, (refl, λ x16. refl))))))))), λ s4. (refl, (λ s11. (refl, λ x17 r17 e17. (refl, λ x18 r18 e18. (refl, λ x19 r19 e19. (refl, (λ s13. (refl, (refl, λ x20. (refl, (refl, λ x21. (refl, (refl, λ x22. (refl, (refl, λ x23. refl)))))))), λ s14. (refl, (λ s15. (refl, λ x24 r24 e24. (refl, (λ s17. (refl, (refl, λ x25 r25 e25. (refl, text_after false end (both (piece x1) (both (piece x2) (both none (both (piece x17) (both (piece x18) (both (piece x19) (both (piece x24) (piece x25))))))))))), λ s18. (refl, (refl, λ x26. (refl, (refl, λ x27. (refl, (refl, λ x28. refl))))))))), λ s16. (refl, (λ s19. (refl, (refl, λ x29 r29 e29. (refl, text_after false end (both (piece x1) (both (piece x2) (both none (both (piece x17) (both (piece x18) (both (piece x19) (both none (piece x29))))))))))), λ s20. (refl, (refl, λ x30. (refl, (refl, λ x31. (refl, (refl, λ x32. (refl, (refl, λ x33. refl))))))))))))))))), λ s12. (refl, (λ s21. (refl, λ x34 r34 e34. (refl, λ x35 r35 e35. (refl, λ x36 r36 e36. (refl, λ x37 r37 e37. (refl, λ x38 r38 e38. (refl, (λ s23. (refl, (refl, λ x39 r39 e39. (refl, text_after false end (both (piece x1) (both (piece x2) (both (both none (both (piece x34) (both (piece x35) (both (piece x36) (both (piece x37) (piece x38)))))) (piece x39))))))), λ s24. (refl, (refl, λ x40. (refl, (refl, λ x41. (refl, (refl, λ x42. refl))))))))))))), λ s22. (refl, (λ s25. (refl, λ x43 r43 e43. (refl, (λ s27. (refl, λ x44 r44 e44. (refl, λ x45 r45 e45. (refl, λ x46 r46 e46. (refl, λ x47 r47 e47. (refl, λ x48 r48 e48. (refl, (λ s29. (refl, (refl, λ x49 r49 e49. (refl, text_after false end (both (piece x1) (both (piece x2) (both (both (piece x43) (both (piece x44) (both (piece x45) (both (piece x46) (both (piece x47) (piece x48)))))) (piece x49))))))), λ s30. (refl, (refl, λ x50. (refl, (refl, λ x51. (refl, (refl, λ x52. refl))))))))))))), λ s28. (refl, λ x53 r53 e53. (refl, λ x54 r54 e54. (refl, (λ s31. (refl, (refl, λ x55 r55 e55. (refl, text_after false end (both (piece x1) (both (piece x2) (both none (both (both none (both none (both (piece x43) (both (piece x53) (piece x54))))) (piece x55)))))))), λ s32. (refl, (refl, λ x56. refl))))))))), λ s26. (refl, (λ s33. (refl, λ x57 r57 e57. (refl, (λ s35. (refl, (refl, λ x58 r58 e58. (refl, text_after false end (both (piece x1) (both (piece x2) (both none (both (piece x57) (piece x58)))))))), λ s36. (refl, (refl, λ x59. refl))))), λ s34. refl))))))))))), λ s2. (refl, (λ s37. (refl, (λ s39. (refl, (λ s41. refl, λ s42. (refl, (refl, λ x60 r60 e60. (refl, (refl, λ x61 r61 e61. (refl, (refl, λ x62 r62 e62. (refl, text_after false end (both (piece x1) (both (piece x60) (both (piece x61) (piece x62))))))))))))), λ s40. (refl, (λ s43. (refl, (λ s45. refl, λ s46. (refl, (refl, λ x63 r63 e63. (refl, (refl, λ x64 r64 e64. (refl, (refl, λ x65 r65 e65. (refl, text_after false end (both (piece x1) (both (piece x63) (both (piece x64) (piece x65))))))))))))), λ s44. (refl, λ x66 r66 e66. (refl, (λ s47. (refl, λ x67 r67 e67. (refl, λ x68 r68 e68. (refl, λ x69 r69 e69. (refl, λ x70 r70 e70. (refl, λ x71 r71 e71. (refl, (λ s49. (refl, (refl, λ x72 r72 e72. (refl, text_after false end (both (piece x1) (both none (both (both (piece x66) (both (piece x67) (both (piece x68) (both (piece x69) (both (piece x70) (piece x71)))))) (piece x72))))))), λ s50. (refl, (refl, λ x73. (refl, (refl, λ x74. (refl, (refl, λ x75. refl))))))))))))), λ s48. (refl, λ x76 r76 e76. (refl, λ x77 r77 e77. (refl, (λ s51. (refl, (refl, λ x78 r78 e78. (refl, text_after false end (both (piece x1) (both none (both none (both (both none (both none (both (piece x66) (both (piece x76) (piece x77))))) (piece x78)))))))), λ s52. (refl, (refl, λ x79. refl))))))))))))), λ s38. (refl, (λ s53. (refl, λ x83 r83 e83. (refl, λ x84 r84 e84. (refl, λ x85 r85 e85. (refl, (λ s55. (refl, (refl, λ x86. (refl, (refl, λ x87. (refl, (refl, λ x88. (refl, (refl, λ x89. refl)))))))), λ s56. (refl, (λ s57. (refl, λ x90 r90 e90. (refl, (λ s59. (refl, (refl, λ x91 r91 e91. (refl, text_after false end (both (piece x1) (both none (both none (both (piece x83) (both (piece x84) (both (piece x85) (both (piece x90) (piece x91))))))))))), λ s60. (refl, (refl, λ x92. (refl, (refl, λ x93. (refl, (refl, λ x94. refl))))))))), λ s58. (refl, (λ s61. (refl, (refl, λ x95 r95 e95. (refl, text_after false end (both (piece x1) (both none (both none (both (piece x83) (both (piece x84) (both (piece x85) (both none (piece x95))))))))))), λ s62. (refl, (refl, λ x96. (refl, (refl, λ x97. (refl, (refl, λ x98. (refl, (refl, λ x99. refl))))))))))))))))), λ s54. (refl, (λ s63. (refl, λ x100 r100 e100. (refl, λ x101 r101 e101. (refl, λ x102 r102 e102. (refl, λ x103 r103 e103. (refl, λ x104 r104 e104. (refl, (λ s65. (refl, (refl, λ x105 r105 e105. (refl, text_after false end (both (piece x1) (both none (both (both none (both (piece x100) (both (piece x101) (both (piece x102) (both (piece x103) (piece x104)))))) (piece x105))))))), λ s66. (refl, (refl, λ x106. (refl, (refl, λ x107. (refl, (refl, λ x108. refl))))))))))))), λ s64. (refl, (λ s67. (refl, λ x109 r109 e109. (refl, (λ s69. (refl, λ x110 r110 e110. (refl, λ x111 r111 e111. (refl, λ x112 r112 e112. (refl, λ x113 r113 e113. (refl, λ x114 r114 e114. (refl, (λ s71. (refl, (refl, λ x115 r115 e115. (refl, text_after false end (both (piece x1) (both none (both (both (piece x109) (both (piece x110) (both (piece x111) (both (piece x112) (both (piece x113) (piece x114)))))) (piece x115))))))), λ s72. (refl, (refl, λ x116. (refl, (refl, λ x117. (refl, (refl, λ x118. refl))))))))))))), λ s70. (refl, λ x119 r119 e119. (refl, λ x120 r120 e120. (refl, (λ s73. (refl, (refl, λ x121 r121 e121. (refl, text_after false end (both (piece x1) (both none (both none (both (both none (both none (both (piece x109) (both (piece x119) (piece x120))))) (piece x121)))))))), λ s74. (refl, (refl, λ x122. refl))))))))), λ s68. (refl, (λ s75. (refl, λ x123 r123 e123. (refl, (λ s77. (refl, (refl, λ x124 r124 e124. (refl, text_after false end (both (piece x1) (both none (both none (both (piece x123) (piece x124)))))))), λ s78. (refl, (refl, λ x125. refl))))), λ s76. (refl, (λ s79. refl, λ s80. (refl, (refl, λ x80 r80 e80. (refl, (refl, λ x81 r81 e81. (refl, (refl, λ x82 r82 e82. (refl, text_after false end (both (piece x1) (both (piece x80) (both (piece x81) (piece x82))))))))))))))))))))))))))

pub derive_input_goes : (a : Bool) (m : Stream) → Goes a (planned_course Planned-m.DeriveInput) derive_input_plan end m
unfolding derive_input_plan enum_plan struct_plan union_plan
derive_input_goes true m = (refl, (refl, λ x1 r1 e1. (refl, (refl, λ x2 r2 e2. (refl, (λ s1. (refl, (refl, λ x3 r3 e3. (refl, (refl, λ x4 r4 e4. (refl, (refl, λ x5 r5 e5. (refl, (refl, λ x6 r6 e6. (refl, text_after true end (both (piece x1) (both (piece x2) (both (piece x3) (both (piece x4) (both (piece x5) (piece x6))))))))))))))), λ s2. (refl, (λ s3. (refl, (refl, λ x7 r7 e7. (refl, (refl, λ x8 r8 e8. (refl, (refl, λ x9 r9 e9. (refl, (refl, λ x10 r10 e10. (refl, (refl, λ x11 r11 e11. (refl, text_after true end (both (piece x1) (both (piece x2) (both (piece x7) (both (piece x8) (both (piece x9) (both (piece x10) (piece x11)))))))))))))))))), λ s4. (refl, (refl, λ x12 r12 e12. (refl, (refl, λ x13 r13 e13. (refl, (refl, λ x14 r14 e14. (refl, (refl, λ x15 r15 e15. (refl, (refl, λ x16 r16 e16. (refl, text_after true end (both (piece x1) (both (piece x2) (both (piece x12) (both (piece x13) (both (piece x14) (both (piece x15) (piece x16))))))))))))))))))))))))))
derive_input_goes false m = (refl, (refl, λ x1 r1 e1. (refl, (refl, λ x2 r2 e2. (refl, (λ s1. (refl, (refl, λ x3 r3 e3. (refl, (refl, λ x4 r4 e4. (refl, (refl, λ x5 r5 e5. (refl, (refl, λ x6 r6 e6. (refl, text_after false end (both (piece x1) (both (piece x2) (both (piece x3) (both (piece x4) (both (piece x5) (piece x6))))))))))))))), λ s2. (refl, (λ s3. (refl, (refl, λ x7 r7 e7. (refl, (refl, λ x8 r8 e8. (refl, (refl, λ x9 r9 e9. (refl, (refl, λ x10 r10 e10. (refl, (refl, λ x11 r11 e11. (refl, text_after false end (both (piece x1) (both (piece x2) (both (piece x7) (both (piece x8) (both (piece x9) (both (piece x10) (piece x11)))))))))))))))))), λ s4. (refl, (refl, λ x12 r12 e12. (refl, (refl, λ x13 r13 e13. (refl, (refl, λ x14 r14 e14. (refl, (refl, λ x15 r15 e15. (refl, (refl, λ x16 r16 e16. (refl, text_after false end (both (piece x1) (both (piece x2) (both (piece x12) (both (piece x13) (both (piece x14) (both (piece x15) (piece x16))))))))))))))))))))))))))

pub crate_macro_goes : (a : Bool) (m : Stream) → Goes a (planned_course Planned-m.CrateMacro) crate_macro_plan end m
unfolding crate_macro_plan crate_statement_end
crate_macro_goes true m = (refl, (λ s1. (refl, (refl, λ x1 r1 e1. (refl, (refl, λ x2 r2 e2. (refl, (λ s3. (refl, (refl, λ x3 r3 e3. (refl, (λ s5. refl, λ s6. (refl, (refl, λ x4 r4 e4. (refl, text_after true end (both (both (piece x1) (both (piece x2) (piece x3))) (piece x4))))))))), λ s4. refl)))))), λ s2. (refl, (refl, λ x5 r5 e5. (refl, (refl, λ x6 r6 e6. (refl, (λ s7. (refl, (refl, λ x7 r7 e7. (refl, (λ s9. (refl, text_after true end (both (both (piece x5) (both (piece x6) (both none (piece x7)))) none)), λ s10. (refl, (refl, λ x8 r8 e8. (refl, text_after true end (both (both (piece x5) (both (piece x6) (piece x7))) (piece x8))))))))), λ s8. (refl, (refl, λ x9 r9 e9. (refl, (refl, λ x10 r10 e10. (refl, (λ s11. (refl, text_after true end (both (both (piece x5) (both (piece x6) (both (piece x9) (piece x10)))) none)), λ s12. refl))))))))))))))
crate_macro_goes false m = (refl, (λ s1. (refl, (refl, λ x1 r1 e1. (refl, (refl, λ x2 r2 e2. (refl, (λ s3. (refl, (refl, λ x3 r3 e3. (refl, (λ s5. refl, λ s6. (refl, (refl, λ x4 r4 e4. (refl, text_after false end (both (both (piece x1) (both (piece x2) (piece x3))) (piece x4))))))))), λ s4. refl)))))), λ s2. (refl, (refl, λ x5 r5 e5. (refl, (refl, λ x6 r6 e6. (refl, (λ s7. (refl, (refl, λ x7 r7 e7. (refl, (λ s9. (refl, text_after false end (both (both (piece x5) (both (piece x6) (both none (piece x7)))) none)), λ s10. (refl, (refl, λ x8 r8 e8. (refl, text_after false end (both (both (piece x5) (both (piece x6) (piece x7))) (piece x8))))))))), λ s8. (refl, (refl, λ x9 r9 e9. (refl, (refl, λ x10 r10 e10. (refl, (λ s11. (refl, text_after false end (both (both (piece x5) (both (piece x6) (both (piece x9) (piece x10)))) none)), λ s12. refl))))))))))))))

pub use_item_rest_goes : (a : Bool) (m : Stream) → Goes a (planned_course Planned-m.UseItemRest) use_alone end m
unfolding use_alone
use_item_rest_goes true m = (refl, λ x1 r1 e1. (refl, λ x2 r2 e2. (refl, (λ s1. rooted_meets true _ _ _ _ _ r2 (λ x3 r3 e3. refl) (λ x3 r3 e3. (refl, (refl, λ x4 r4 e4. (refl, text_after true end (both (piece x1) (both (piece x2) (both (piece x3) (piece x4)))))))), λ s2. (refl, (refl, λ x5 r5 e5. (refl, (refl, λ x6 r6 e6. (refl, (refl, λ x7 r7 e7. (refl, text_after true end (both (piece x1) (both (piece x2) (both (both (piece x5) (piece x6)) (piece x7)))))))))))))))
use_item_rest_goes false m = (refl, λ x1 r1 e1. (refl, λ x2 r2 e2. (refl, (λ s1. rooted_meets false _ _ _ _ _ r2 (λ x3 r3 e3. refl) (λ x3 r3 e3. (refl, (refl, λ x4 r4 e4. (refl, text_after false end (both (piece x1) (both (piece x2) (both (piece x3) (piece x4)))))))), λ s2. (refl, (refl, λ x5 r5 e5. (refl, (refl, λ x6 r6 e6. (refl, (refl, λ x7 r7 e7. (refl, text_after false end (both (piece x1) (both (piece x2) (both (both (piece x5) (piece x6)) (piece x7)))))))))))))))

pub type_item_rest_goes : (a : Bool) (m : Stream) → Goes a (planned_course Planned-m.TypeItemRest) type_alone end m
unfolding type_alone
type_item_rest_goes true m = (refl, λ x1 r1 e1. (refl, λ x2 r2 e2. (refl, λ x3 r3 e3. (refl, λ x4 r4 e4. alone_clause_meets true (λ x5 x6 x7 x8 x9. (Node (parts (x1 ∷ hidden ∷ x2 ∷ x3 ∷ x4 ∷ hidden ∷ Such (parts (x5 ∷ x6 ∷ x7 ∷ x8 ∷ [])) ∷ x9 ∷ [])))) _ r4 (λ x5 x6 x7 x8 x9. text_after true end (both (piece x1) (both none (both (piece x2) (both (piece x3) (both (piece x4) (both none (both (both (piece x5) (both (piece x6) (both (piece x7) (piece x8)))) (piece x9)))))))))))))
type_item_rest_goes false m = (refl, λ x1 r1 e1. (refl, λ x2 r2 e2. (refl, λ x3 r3 e3. (refl, λ x4 r4 e4. alone_clause_meets false (λ x5 x6 x7 x8 x9. (Node (parts (x1 ∷ hidden ∷ x2 ∷ x3 ∷ x4 ∷ hidden ∷ Such (parts (x5 ∷ x6 ∷ x7 ∷ x8 ∷ [])) ∷ x9 ∷ [])))) _ r4 (λ x5 x6 x7 x8 x9. text_after false end (both (piece x1) (both none (both (piece x2) (both (piece x3) (both (piece x4) (both none (both (both (piece x5) (both (piece x6) (both (piece x7) (piece x8)))) (piece x9)))))))))))))

pub impl_definition_rest_goes : (a : Bool) (m : Stream) → Goes a (planned_course Planned-m.ImplDefinitionRest) impl_alone end m
unfolding impl_alone plain_types
impl_definition_rest_goes true m = (refl, λ x1 r1 e1. (refl, λ x2 r2 e2. (refl, λ x3 r3 e3. (refl, λ x4 r4 e4. alone_impl_meets true (λ z. Node (parts (x1 ∷ x2 ∷ x3 ∷ x4 ∷ z ∷ []))) _ r4 (λ z. text_after true end (both (piece x1) (both (piece x2) (both (piece x3) (both (piece x4) (piece z))))))))))
impl_definition_rest_goes false m = (refl, λ x1 r1 e1. (refl, λ x2 r2 e2. (refl, λ x3 r3 e3. (refl, λ x4 r4 e4. alone_impl_meets false (λ z. Node (parts (x1 ∷ x2 ∷ x3 ∷ x4 ∷ z ∷ []))) _ r4 (λ z. text_after false end (both (piece x1) (both (piece x2) (both (piece x3) (both (piece x4) (piece z))))))))))
