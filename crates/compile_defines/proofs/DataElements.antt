-- How many elements the patterns of data have, and the values of an attribute as a list where its bounds are not those of what stands once.
use Rattle.std.proofs.Common.{◌≡◌, ◌∙◌, ℕ, zero, suc, ◌+◌, ◌≤◌, ◌&&◌, Bool, false, nat_eq, List, [], ◌∷◌, Option, Some, None, length, map, refl, sym, ap, arith}
use Rattle.std.proofs.lemmas.List.{length-map}
use Rattle.std.specs.Option.{option_eq}
use Rattle.odd_attributes.specs.declared.att_def.AttDef.{AttDef}
use Rattle.odd_meaning.specs.Values.{bounds_of}
use Rattle.rng_emit.proofs.Shapes.{list_is, same_is, typed_is}
use Rattle.rng_emit.specs.Grammar.{all_of, param_markup}
use Rattle.rng_emit.specs.Nodes.{elements_among, elements_in}
use Rattle.rng_grammar.specs.declared.grammar.Expr.{Expr}
use Rattle.rng_grammar.specs.declared.grammar.Expr.TheVariants as expr
use Rattle.rng_types.specs.declared.bounds.Bounds.{Bounds}
use Rattle.rng_types.specs.declared.data_type.DataType.{DataType}
use Rattle.rng_types.specs.declared.facet.Facet.{Facet}
use Rattle.compile_defines.proofs.Elements.{choice_elements, one_each, part_within, sum_by-map}
use Rattle.compile_defines.specs.Budget.{joint_elements, pattern_elements}
use Rattle.compile_defines.specs.Data.{piece_pattern, pieces_pattern, value_pattern, values_pattern}
use Rattle.compile_defines.specs.Parts.{is_never}
use Rattle.compile_defines.specs.Repeating.{repeated}

-- each facet is one element
params_elements : (facets : List Facet) → elements_among (all_of (map param_markup facets)) ≡ length facets
params_elements [] = refl
params_elements (f ∷ facets) = let rest = params_elements facets in omega arith

-- a datatype has an element for itself and one for each facet
pub typed_elements : (k : DataType) (facets : List Facet) → pattern_elements (expr.Typed k facets) ≡ length facets + 1
typed_elements k facets = ap elements_in (typed_is k facets) ∙ ap (λ n. n + 1) (params_elements facets)

-- a value has one element
same_elements : (text : List ℕ) → pattern_elements (expr.Same text) ≡ 1
same_elements text = ap elements_in (same_is text)

-- a list has one more than its part
pub list_elements : (p : Expr) → pattern_elements (expr.List p) ≡ pattern_elements p + 1
list_elements p = ap elements_in (list_is p) ∙ omega arith

-- a choice of values has one for each, and may be one more
pub values_elements : (values : List (List ℕ)) → pattern_elements (values_pattern values) ≡ length values + joint_elements (length values)
values_elements values =
    let each = sum_by-map pattern_elements expr.Same values ∙ one_each (λ value. pattern_elements (expr.Same value)) same_elements values in
    choice_elements (map expr.Same values) ∙ (λ i. each i + joint_elements (length-map values expr.Same i))

-- the test of bounds against those of what stands once
abbrev is_once : ℕ → Option ℕ → Bool
is_once min max = nat_eq min 1 && option_eq nat_eq max (Some 1)

-- pieces that do not stand once are a list
pieces_listed : (piece : Expr) (min : ℕ) (max : Option ℕ) → is_once min max ≡ false
    → pieces_pattern piece (record { min = min; max = max }) ≡ expr.List (repeated piece (record { min = min; max = max }))
pieces_listed piece zero max other = refl
pieces_listed piece (suc zero) None other = refl
pieces_listed piece (suc zero) (Some zero) other = refl
pieces_listed piece (suc zero) (Some (suc zero)) other = cc
pieces_listed piece (suc zero) (Some (suc (suc max))) other = refl
pieces_listed piece (suc (suc min)) max other = refl

-- so the values of an attribute are, where its bounds are others
pub value_listed : (def : AttDef) (b : Bounds) → b ≡ bounds_of def.datatype → is_once b.min b.max ≡ false
    → value_pattern def ≡ expr.List (repeated (piece_pattern def.datatype def.vals) b)
value_listed def b is other =
    let piece = piece_pattern def.datatype def.vals in
    ap (pieces_pattern piece) (sym is) ∙ pieces_listed piece b.min b.max other

-- and one piece is within them, where it stands at all
pub piece_in_value : (def : AttDef) (b : Bounds) → b ≡ bounds_of def.datatype → is_once b.min b.max ≡ false → is_never b ≡ false
    → pattern_elements (piece_pattern def.datatype def.vals) ≤ pattern_elements (value_pattern def)
piece_in_value def b is other some =
    let piece = piece_pattern def.datatype def.vals in
    let listed = ap pattern_elements (value_listed def b is other) ∙ list_elements (repeated piece b) in
    let within = part_within piece b some in
    omega arith
