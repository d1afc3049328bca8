-- The first fault of the `schemaSpec` of a file: of the first by itself, and that there is another.
use Rattle.std.proofs.Common.{◌≡◌, ◌≤◌, ◌<◌, ◌-◌, ◌⊎◌, ℕ, false, List, [], ◌∷◌, ◌++◌, drop, get_or, length, take, Option, Some, None, slice_get, inl, inr, ⊎_elim, refl, sym, ap, subst, ◌∙◌, arith}
use Rattle.std.proofs.lemmas.List.{take_all}
use Rattle.std.specs.Option.{option_map}
use Rattle.odd_items.proofs.Standing.{found_rise}
use Rattle.odd_items.specs.Groups.{schema_names}
use Rattle.odd_items.specs.Search.{Finds, Found}
use Rattle.odd_items.specs.Searching.{AreKept, IsKept, more, none}
use Rattle.odd_items.specs.declared.searching.Kept.{Kept}
use Rattle.odd_items.specs.declared.searching.Level.{Level}
use Rattle.odd_library.specs.First.{IsNotAfter}
use Rattle.odd_library.specs.declared.fault.Fault.{Fault}
use Rattle.odd_text.proofs.InList.{first_or_later, nothing_stands, stands_first}
use Rattle.odd_text.specs.Standing.{StandsIn}
use Rattle.odd_tree.specs.Formed.{IsFormed}
use Rattle.odd_tree.specs.declared.tree.Tree.{Tree, out-Tree}
use Rattle.odd_decls.proofs.FirstFault.{first_or, first_same, lesser_fault}
use Rattle.odd_decls.specs.Faults.{IsFirstIn, OffendsAlone}
use Rattle.odd_decls.specs.Items.{at_of}
use Rattle.odd_decls.specs.Offences.{SchemasOffend}

-- a file without a `schemaSpec` has no fault of one
pub none_offends : (levels : List Level) (keeps : List Kept) (schemas : List Found) → length keeps < 1 → AreKept levels keeps schemas → IsFirstIn (SchemasOffend schemas) None
none_offends levels [] [] h none place rule f = elim f [ ]
none_offends levels [] (f ∷ schemas) h are place rule o = elim are [ ]
none_offends levels (k ∷ keeps) schemas h are place rule o = absurd (omega arith)

-- one of the others stands there for a second time
abbrev pub StandsAgain : List Found → ℕ → ℕ → Type 0
StandsAgain others place rule = (other : Found) × StandsIn others other × (place ≡ at_of other) × (rule ≡ 4)

-- the fault of the first of several that stand there for a second time
abbrev pub first_again : List Kept → Option Fault
first_again keeps = option_map (λ k. record { at = (out-Tree k.tree.now).at; rule = 4 }) (slice_get keeps 0)

-- each of the others begins after the first
abbrev RisesFrom : List Found → Type 0
RisesFrom founds = (before between after : List Found) (f g : Found) → founds ≡ before ++ f ∷ (between ++ g ∷ after) → at_of f < at_of g

-- the first of the others is the first that stands again
again_first : (levels : List Level) (first : Found) (keeps : List Kept) (others : List Found) → AreKept levels keeps others → RisesFrom (first ∷ others)
    → IsFirstIn (StandsAgain others) (first_again keeps)
again_first levels first [] [] none rises = λ place rule f. nothing_stands f.0 f.1
again_first levels first [] (g ∷ others) are rises = elim are [ ]
again_first levels first (k ∷ keeps) [] are rises = elim are [ ]
again_first levels first (k ∷ keeps) (g ∷ others) (more is are) rises =
    subst (λ at. IsFirstIn (StandsAgain (g ∷ others)) (Some (record { at = at; rule = 4 }))) (sym (ap (λ t. (out-Tree t).at) is.tree))
    (record { is_one = (g, stands_first g others, refl, refl); first = first_of })
  where
    first_of : (place rule : ℕ) → StandsAgain (g ∷ others) place rule → IsNotAfter (at_of g) 4 place rule
    first_of place rule (f, s, p, r) =
        ⊎_elim (λ e. inr (ap at_of (sym e) ∙ sym p, omega (arith, r)))
        (λ later. let low : at_of g < at_of f = rises (first ∷ []) later.0 later.1 g f (ap (λ fs. first ∷ (g ∷ fs)) later.2) in inl (omega (arith, p)))
        (first_or_later g f others s)

-- what the `schemaSpec` break is what the first breaks by itself, and what stands again
schemas_offend : (first : Found) (others : List Found) (o : Option Fault) → IsFirstIn (λ place rule. OffendsAlone first place rule ⊎ StandsAgain others place rule) o
    → IsFirstIn (SchemasOffend (first ∷ others)) o
schemas_offend first others o h = first_same (λ place rule. OffendsAlone first place rule ⊎ StandsAgain others place rule) (SchemasOffend (first ∷ others)) o into back h
  where
    into : (place rule : ℕ) → OffendsAlone first place rule ⊎ StandsAgain others place rule → SchemasOffend (first ∷ others) place rule
    into place rule f = ⊎_elim (λ a. SchemasOffend.itself a.0 a.1) (λ b. subst (SchemasOffend (first ∷ others) place) (sym b.3) (SchemasOffend.again b.0 b.1 b.2)) f

    back : (place rule : ℕ) → SchemasOffend (first ∷ others) place rule → OffendsAlone first place rule ⊎ StandsAgain others place rule
    back place rule (SchemasOffend.itself f p) = inl (f, p)
    back place rule (SchemasOffend.again other s p) = inr (other, s, p, refl)

-- the first fault of the `schemaSpec` is the lesser of the first of the first one, and of the first of the others
pub schemas_first : (first end : ℕ) (t : Tree) (levels : List Level) (keeps : List Kept) (schemas : List Found) (k : Kept) (itself second o : Option Fault) → IsFormed first end t
    → Finds schema_names false [] t schemas → AreKept levels keeps schemas → 1 ≤ length keeps → k ≡ get_or keeps 0 k
    → ((found : Found) → IsKept levels k found → IsFirstIn (OffendsAlone found) itself) → second ≡ first_again (take (length keeps - 1) (drop 1 keeps)) → o ≡ lesser_fault itself second
    → IsFirstIn (SchemasOffend schemas) o
schemas_first first end t levels [] schemas k itself second o formed finds are h is alone again e = absurd (omega arith)
schemas_first first end t levels (u ∷ keeps) [] k itself second o formed finds are h is alone again e = elim are [ ]
schemas_first first end t levels (u ∷ keeps) (f ∷ schemas) k itself second o formed finds (more kept are) h is alone again e =
    let rest : take (length (u ∷ keeps) - 1) keeps ≡ keeps = take_all _ _ (omega arith) in
    let other : IsFirstIn (StandsAgain schemas) second =
    subst (IsFirstIn (StandsAgain schemas)) (sym (again ∙ ap first_again rest)) (again_first levels f keeps schemas are (found_rise first end schema_names false [] t (f ∷ schemas) formed finds)) in
    subst (IsFirstIn (SchemasOffend (f ∷ schemas))) (sym e)
    (schemas_offend f schemas (lesser_fault itself second) (first_or (OffendsAlone f) (StandsAgain schemas) itself second (alone f (subst (λ v. IsKept levels v f) (sym is) kept)) other))
