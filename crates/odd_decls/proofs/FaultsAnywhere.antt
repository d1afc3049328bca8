-- What a `classes` or an `attList` breaks, it breaks whatever declarations stand around it.
use Rattle.std.proofs.Common.{◌≡◌, ℕ, Bool, true, false, if◌then◌else◌, List, ◌++◌, refl}
use Rattle.std.proofs.lemmas.Bool.{both_ways, false_from_ne_true}
use Rattle.std.specs.List.{list_any}
use Rattle.odd_forms.proofs.Children.{found_among}
use Rattle.odd_text.proofs.Least.{any_stands}
use Rattle.odd_forms.specs.Deep.{DeepFault}
use Rattle.odd_forms.specs.Faults.{DemandFault, FormFault, OwnFault}
use Rattle.odd_forms.specs.Form.{Demand, bound}
use Rattle.odd_forms.specs.Table.{form_at}
use Rattle.odd_forms.specs.declared.element.Element.{Element}
use Rattle.odd_forms.specs.declared.element.Element.TheVariants as element
use Rattle.odd_text.specs.declared.name.Bind.{Bind}
use Rattle.odd_text.specs.Standing.{StandsIn}
use Rattle.odd_tree.specs.Elements.{within}
use Rattle.odd_tree.specs.declared.tree.Tree.{Tree}

-- a demand that speaks of the declarations in force
abbrev is_bound : Demand → Bool
is_bound (bound local) = true
is_bound d = false

-- an `anyElement`, of which it is asked, or an element in which one may stand
abbrev pub may_bind : Element → Bool
may_bind element.SchemaSpec = true
may_bind element.ElementSpec = true
may_bind element.MacroSpec = true
may_bind element.DataSpec = true
may_bind element.Content = true
may_bind element.Sequence = true
may_bind element.Alternate = true
may_bind element.AnyElement = true
may_bind element.DataContent = true
may_bind element.DataAlternate = true
may_bind e = false

-- of no other element it is asked, and in none of them one may stand
demands_free : (e : Element) → (if may_bind e then false else list_any is_bound (form_at e).demands) ≡ false
demands_free element.SchemaSpec = refl
demands_free e = refl

children_free : (e : Element) → (if may_bind e then false else list_any may_bind ((form_at e).many ++ (form_at e).once)) ≡ false
children_free element.SchemaSpec = refl
children_free e = refl

-- what is one of some things none of which passes a test does not pass it
passes_not : {A : Type 0} (test : A → Bool) (xs : List A) (x : A) → list_any test xs ≡ false → StandsIn xs x → test x ≡ false
passes_not test xs x none s = false_from_ne_true (test x) (λ h. both_ways _ none ((any_stands test xs).1 (x, s, h)))

-- any other demand is broken whatever declarations are in force
demand_anywhere : {binds : List Bind} {t : Tree} {d : Demand} {rule : ℕ} (others : List Bind) → is_bound d ≡ false → DemandFault binds t d rule → DemandFault others t d rule
demand_anywhere others free (DemandFault.out_of_order m n least most less) = DemandFault.out_of_order m n least most less
demand_anywhere others free (DemandFault.both one other) = DemandFault.both one other
demand_anywhere others free (DemandFault.missing none told) = DemandFault.missing none told
demand_anywhere others free (DemandFault.unbound h) = cc
demand_anywhere others free (DemandFault.twice value s) = DemandFault.twice value s
demand_anywhere others free (DemandFault.collapsed_twice value s) = DemandFault.collapsed_twice value s
demand_anywhere others free (DemandFault.attribute_twice value defs lists s) = DemandFault.attribute_twice value defs lists s
demand_anywhere others free (DemandFault.neither one other) = DemandFault.neither one other
demand_anywhere others free (DemandFault.both_given one other) = DemandFault.both_given one other
demand_anywhere others free (DemandFault.beside one other) = DemandFault.beside one other
demand_anywhere others free (DemandFault.child_beside named some) = DemandFault.child_beside named some
demand_anywhere others free (DemandFault.no_child none told) = DemandFault.no_child none told
demand_anywhere others free (DemandFault.not_one h) = DemandFault.not_one h
demand_anywhere others free (DemandFault.misplaced h) = DemandFault.misplaced h
demand_anywhere others free (DemandFault.not_once h) = DemandFault.not_once h
demand_anywhere others free (DemandFault.not_of_kind h) = DemandFault.not_of_kind h
demand_anywhere others free (DemandFault.no_item name is f) = DemandFault.no_item name is f

form_anywhere : (e : Element) {binds : List Bind} {t : Tree} {rule : ℕ} (others : List Bind) → may_bind e ≡ false → FormFault (form_at e) binds t rule → FormFault (form_at e) others t rule
form_anywhere e others free (FormFault.own (OwnFault.attribute a s f)) = FormFault.own (OwnFault.attribute a s f)
form_anywhere e others free (FormFault.own (OwnFault.left_out local s f)) = FormFault.own (OwnFault.left_out local s f)
form_anywhere e others free (FormFault.own (OwnFault.demand d s f)) =
    FormFault.own (OwnFault.demand d s (demand_anywhere others (passes_not is_bound (form_at e).demands d (rw free at (demands_free e)) s) f))
form_anywhere e others free (FormFault.child child s f) = FormFault.child child s f
form_anywhere e others free (FormFault.twice kind s f) = FormFault.twice kind s f

pub fault_anywhere : {e : Element} {left : ℕ} {binds : List Bind} {t : Tree} {rule : ℕ} (others : List Bind) → may_bind e ≡ false → DeepFault e left binds t rule → DeepFault e left others t rule
fault_anywhere {e = e} {t = t} others free (DeepFault.itself f) = DeepFault.itself (form_anywhere e (within others t) free f)
fault_anywhere others free (DeepFault.deep level none) = DeepFault.deep level none
fault_anywhere {e = e} {t = t} others free (DeepFault.inside kind child s is f) =
    let among = (form_at e).many ++ (form_at e).once in
    DeepFault.inside kind child s is (fault_anywhere (within others t) (passes_not may_bind among kind (rw free at (children_free e)) (found_among among child kind is).0) f)
