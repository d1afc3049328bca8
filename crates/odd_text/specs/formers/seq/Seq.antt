-- `Seq` as a type that may hold the type that holds it.
use mathlib.Core.Path.{◌≡◌, refl, sym}
use mathlib.Core.List.{List, []}
use mathlib.Core.Logic.{◌⊎◌, inl, inr}
use mathlib.Core.Former.{Former, this, const, pair, or, list, via, children}
use base.Stored.{gnil, code_map}
use base.Fml.{ftrue}
use denote.RattleType.{RattleType}
use denote.RawPtr.{Ptr}
use denote.Memory.{part_of}
use denote.Sharing.{nothing}
use denote.HoleLaws.{Alike}
use denote.HolePlaces.{Recodes, struct_places, enum_places, eachs, laid, stays, one_value}
use denote.Hole.Carrier.{listed, list-listed}
use denote.Hole.Fix.{over}
use denote.Param.Weighed.{Weighed, w_list}
use denote.Model.Placed.{held, view_places}
use Rattle.std.specs.formers.vec.Vec as vec
use Rattle.std.specs.declared.boxed.Box.{Box}
use Rattle.std.specs.contracts.boxed.Box as box
use Rattle.std.specs.declared.option.Option.{Option}
use Rattle.std.specs.declared.option.Option.TheVariants.{None, Some}
use Rattle.std.specs.contracts.option.Option as option
use Rattle.std.specs.declared.vec.Vec.{Vec}
use Rattle.std.specs.contracts.vec.Vec as V
use Rattle.std.specs.declared.alloc.Global.{Global}
use Rattle.std.specs.contracts.alloc.Global as heap
use Rattle.std.specs.contracts.impls.GlobalAllocator.TheImpl.{ghosts}
use Rattle.odd_text.specs.Seq.{boxed_items}
use Rattle.odd_text.specs.declared.seq.Seq.TheInside.{Inside}
use Rattle.odd_text.specs.declared.seq.Seq.TheView.{view, invariant}
use Rattle.odd_text.specs.contracts.seq.Seq as C
use Rattle.odd_text.specs.contracts.seq.Seq.TheInside as I

abbrev pub the_former : Former {0} → Former {0}
the_former g = list g

abbrev pub the_weighed : {g : Former {0}} → Weighed g → Weighed (the_former g)
the_weighed w = w_list w

pub the_empty : List ⊥
the_empty = []

abbrev pub the_items : (X : Type 0) → List X → List X
the_items X d = d

pub the_items_listed : (X : Type 0) (d : List X) → listed _ (children (the_former this) X d) ≡ the_items X d
the_items_listed X d = list-listed X d

-- the field `items`
abbrev Boxed : Type 0 → Type 0
Boxed X = Option (Box (Vec X Global) Global)

-- the same as a sum, of none and of a box with the items
abbrev Sum : Type 0 → Type 0
Sum X = Unit {0} ⊎ ((Ptr × Global) × Vec X Global)

abbrev split : (X : Type 0) → Boxed X → Sum X
split X None = inl tt
split X (Some b) = inr ((b.ptr, b.alloc), b.value)

abbrev join : (X : Type 0) → Sum X → Boxed X
join X (inl u) = None
join X (inr v) = Some (record { ptr = v.0.0; alloc = v.0.1; value = v.1 })

join-split : (X : Type 0) (o : Boxed X) → join X (split X o) ≡ o
join-split X None = refl
join-split X (Some b) = refl

split-join : (X : Type 0) (s : Sum X) → split X (join X s) ≡ s
split-join X (inl u) = refl
split-join X (inr v) = refl

abbrev boxed : Former {0}
boxed = via (or (const (Unit {0})) (pair (const (Ptr × Global)) (vec.the_former this Global))) Boxed split join join-split split-join

abbrev fields : Former {0}
fields = via (pair (const Global) boxed) Inside (λ X a. (a.alloc, a.items)) (λ X v. record { alloc = v.0; items = v.1 }) (λ X a. refl) (λ X v. refl)

natural : (X Y : Type 0) (h : X → Y) (o : Boxed X) → boxed_items (boxed.map X Y h o) ≡ (list this).map X Y h (boxed_items o)
natural X Y h None = refl
natural X Y h (Some b) = refl

keeps : (X : Type 0) (o : Boxed X) → held (list this) X (boxed_items o) ≡ held boxed X o
keeps X None = refl
keeps X (Some b) = refl

abbrev with_value : {X Y : Type 0} → Box X Global → Y → Box Y Global
with_value b y = record { ptr = b.ptr; alloc = b.alloc; value = y }

abbrev box_of : RattleType → RattleType
box_of R = box.the_row R heap.the_row ghosts

abbrev vec_of : RattleType → RattleType
vec_of R = V.the_row R heap.the_row ghosts

box_places : (R S : RattleType) (h : R.Denot → S.Denot) → Alike R S h → Alike (box_of R) (box_of S) (λ b. with_value b (h b.value))
unfolding part_of
box_places R S h a = record {
  mir_same = λ i. (box_of (one_value R (a.mir_same i) (λ _. ftrue) (λ _ _. nothing) gnil)).mir;
  own_same = λ b i. (box_of (one_value R (a.mir_same i) (a.own_same b.value i) (a.shr_same b.value i) gnil)).own_val (with_value b tt);
  shr_same = λ b i. (box_of (one_value R (a.mir_same i) (a.own_same b.value i) (a.shr_same b.value i) gnil)).shr_at (with_value b tt);
}

module _ (R S : RattleType) (h : R.Denot → S.Denot) where
  abbrev box_over : Box (Vec R.Denot Global) Global → Box (Vec S.Denot Global) Global
  box_over b = with_value b (vec.mapped h b.value)

  variant : (o : Boxed R.Denot) → (option.enum (box_of (vec_of S))).as_values (boxed.map R.Denot S.Denot h o)
      ≡ eachs (option.enum (box_of (vec_of R))).parts (option.enum (box_of (vec_of S))).parts (tt, ((box_over, tt), tt)) ((option.enum (box_of (vec_of R))).as_values o)
  variant None = refl
  variant (Some b) = refl

  boxed_places : Alike R S h → Alike (option.the_row (box_of (vec_of R))) (option.the_row (box_of (vec_of S))) (boxed.map R.Denot S.Denot h)
  boxed_places a = enum_places (option.enum (box_of (vec_of R))) (option.enum (box_of (vec_of S))) (tt, ((box_over, tt), tt)) _ variant refl
      (tt, ((laid _ _ _ (box_places (vec_of R) (vec_of S) (vec.mapped h) (vec.the_places heap.the_row ghosts R S h a)), tt), tt))

  pub the_places : Alike R S h → Alike (C.the_row R) (C.the_row S) ((the_former this).map R.Denot S.Denot h)
  the_places a = view_places fields (list this) view (λ X Y k u. natural X Y k u.items) (λ X u. keeps X u.items) R.Denot S.Denot h (C.the_row R).coded (C.the_row S).coded
      (invariant R.Denot) (invariant S.Denot) (λ u p q. refl) (λ u p q. refl) (λ u e. tt) (λ u e. tt)
      (over (I.the_row R)) (over (I.the_row S))
      (struct_places (I.the_type R) (I.the_type S) ((λ n. n), (boxed.map R.Denot S.Denot h, tt)) _ (λ d. refl) refl (stays heap.the_row, (laid _ _ _ (boxed_places a), tt)))

  pub the_codes_placed : Recodes R S h → Recodes (C.the_row R) (C.the_row S) ((the_former this).map R.Denot S.Denot h)
  the_codes_placed e d = sym (code_map R.coded.code S.coded.code h (λ x. sym (e x)) d)
