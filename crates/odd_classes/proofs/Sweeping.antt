-- What an entry inherits, from the tables of the classes that it is a member of, and which tables are left.
use Rattle.std.proofs.Common.{◌≡◌, ◌≤◌, ◌<◌, ◌+◌, inl, inr, ⊎_elim, ℕ, zero, suc, List, [], ◌∷◌, ◌++◌, Option, Some, None, length, get_or, replicate, set, slice_get, take, drop, arith, sym, ap, subst, ◌∙◌}
use Rattle.std.proofs.lemmas.Bool.{cases_lt}
use Rattle.std.proofs.lemmas.List.{take-append-drop}
use Rattle.std.proofs.lemmas.Option.{same_Some, slice_get-get_or, slice_get_within}
use Rattle.std.specs.FinMap.{find}
use Rattle.std.specs.List.{Contains}
use Rattle.odd_graph.specs.Graph.{HasArrow}
use Rattle.odd_graph.specs.Ordering.{IsOrder}
use Rattle.odd_library.specs.declared.library.Component.{Component}
use Rattle.odd_library.specs.declared.library.Library.{Library}
use Rattle.odd_attributes.specs.declared.att_def.AttDef.{AttDef}
use Rattle.odd_meaning.specs.Links.{IsHeld, class_key, classes_of, memberships}
use Rattle.odd_meaning.specs.Offering.{Inherits, Offers}
use Rattle.odd_offers.proofs.StandingFor.{through_apart, through_least}
use Rattle.odd_offers.proofs.TableOf.{offers_held}
use Rattle.odd_offers.specs.Tables.{HaveAll, IsInherited, IsTableOf, Table, Tells}
use Rattle.odd_text.specs.Key.{key_cmp}
use Rattle.odd_text.specs.Text.{text_cmp}
use Rattle.odd_text.specs.declared.key.Key.{Key}
use Rattle.odd_text.proofs.InList.{begins, map_stands, stands_map}
use Rattle.odd_text.specs.Standing.{StandsIn}
use Rattle.odd_classes.proofs.LastUses.{node_in_front}
use Rattle.odd_classes.proofs.Linked.{held}
use Rattle.odd_classes.proofs.Places.{held_at}
use Rattle.odd_classes.proofs.Scanning.{one_entry}
use Rattle.odd_classes.proofs.TablesTaken.{put_at}
use Rattle.odd_classes.specs.Inheriting.{AreLastUses, AreLeft, AreReady, AreTablesAt, AreTablesOf, HasTable, IsNodeAt}
use Rattle.odd_classes.specs.Placing.{IsEntryAt, IsGraphOf}

-- what stands among the keys of the memberships is that of one
class_of : (part : Component) (class : List ℕ) → StandsIn (classes_of part) (class_key class) → StandsIn (memberships part) class
class_of part class s = let m = stands_map class_key (memberships part) (class_key class) s in subst (StandsIn (memberships part)) (ap (λ (k : Key). k.ident) (sym m.2)) m.1

module _ (library : Library) (arrows : List (List ℕ)) (graph : IsGraphOf classes_of library.parts arrows) (order : List ℕ) (is : IsOrder arrows order) (tables : List (Option Table))
    (exact : AreTablesOf library tables) (at place : ℕ) (here : IsNodeAt order at place) (key : Key) (part : Component) (entry : IsEntryAt library.parts place key part) where
  -- a node of the entry at which a class stands is one of its memberships
  arrow_to : (next : ℕ) (other : Key) (others : Component) → IsEntryAt library.parts next other others → Contains (get_or arrows place []) next → StandsIn (classes_of part) other
  arrow_to next other others there c =
      (graph.leads place next key other part others entry there).0 (record { among = c; within = let w = slice_get_within library.parts next (other, others) there in omega (arith, graph.as_many, w) })

  -- and each held membership is a node of it
  pub arrow_from : (class : List ℕ) → StandsIn (memberships part) class → (other : Component) → find key_cmp (class_key class) library.parts ≡ Some other
      → (next : ℕ) × IsEntryAt library.parts next (class_key class) other × HasArrow arrows place next
  arrow_from class s other h =
      let there = held_at library.parts (class_key class) other h in
      (there.0, there.1, (graph.leads place there.0 key (class_key class) part other entry there.1).1 (map_stands class_key (memberships part) class s))

  -- the order up to the entry, and from it on
  around : order ≡ take at order ++ place ∷ drop (at + 1) order
  around =
      let within = slice_get_within order at place here in
      sym (take-append-drop at order) ∙ ap (λ xs. take at order ++ xs) (begins order at place within (sym (get_here order at place here)))
    where
      get_here : (xs : List ℕ) (i x : ℕ) → slice_get xs i ≡ Some x → get_or xs i x ≡ x
      get_here xs i x h = same_Some _ _ (sym (slice_get-get_or xs i x (slice_get_within xs i x h)) ∙ h)

  -- a node of the entry stands before it
  stands_before : (next : ℕ) → HasArrow arrows place next → (before : ℕ) × IsNodeAt order before next × (before + 1 ≤ at)
  stands_before next arrow =
      let c = is.after (take at order) (drop (at + 1) order) place next around arrow in
      taken_at order at next c
    where
      taken_at : (xs : List ℕ) (n x : ℕ) → Contains (take n xs) x → (i : ℕ) × (slice_get xs i ≡ Some x) × (i + 1 ≤ n)
      taken_at xs n x c =
          let within = c.1 in
          let there = slice_get-get_or (take n xs) c.0 x within ∙ ap Some c.2 in
          let front = node_in_front xs n c.0 x there in
          (c.0, front.1, omega (arith, front.0))

  module _ (ready : AreReady library arrows order at tables) (made : List Table) (are : AreTablesAt tables (get_or arrows place []) made) (table : Table) (all : HaveAll made table) where
    -- a class through which something is inherited has its table among these
    table_of : (class : List ℕ) → StandsIn (memberships part) class → IsHeld library (class_key class) → (one : Table) × StandsIn made one × IsTableOf library class one
    table_of class among is_held =
        let found = held (class_key class) library is_held in
        let next = arrow_from class among found.0 found.1 in
        let earlier = stands_before next.0 next.2 in
        let has = ready earlier.0 at place next.0 class found.0 earlier.1 here next.2 next.1 earlier.2 (omega arith) in
        let of_class = exact next.0 has.0 has.1 in
        let same : class_key of_class.0 ≡ class_key class = (one_entry library.parts next.0 (class_key of_class.0) (class_key class) of_class.1 found.0 of_class.2 next.1).0 in
        (has.0, (are has.0).1 (next.0, next.2.among, has.1), subst (λ (k : Key). IsTableOf library k.ident has.0) same of_class.3)

    -- the tables of its nodes together stand for what the entry inherits
    pub inherited : IsInherited library part table
    inherited ident = record {
      sound = λ def giver s.
          let one = (all ident).sound def giver s in
          let node = (are one.0).0 one.1 in
          let of_class = exact node.0 one.0 node.2 in
          record {
            class = of_class.0;
            among = class_of part of_class.0 (arrow_to node.0 (class_key of_class.0) of_class.1 of_class.2 node.1);
            offered = (of_class.3 ident).sound def giver one.2;
          };
      least = λ def giver i.
          let one = of_inherited def giver i in
          through_least (Given i.class) OneTells (find text_cmp ident one.0) (find text_cmp ident table) (one.2 ident) (all ident) (λ d g m. (one.0, one.1, m)) def giver i.offered;
      apart = λ fields one_made def giver i.
          let one = of_inherited def giver i in
          through_apart (Given i.class) OneTells (find text_cmp ident one.0) (find text_cmp ident table) (one.2 ident) (all ident) (λ d g m. (one.0, one.1, m)) fields one_made def giver i.offered;
    }
      where
        Given : List ℕ → AttDef → List ℕ → Type 0
        Given class def giver = Offers library (class_key class) ident def (class_key giver)

        OneTells : AttDef → List ℕ → Type 0
        OneTells def giver = (one : Table) × StandsIn made one × Tells one ident def giver

        of_inherited : (def : AttDef) (giver : List ℕ) → (i : Inherits library part ident def (class_key giver)) → (one : Table) × StandsIn made one × IsTableOf library i.class one
        of_inherited def giver i = table_of i.class i.among (offers_held library (class_key i.class) (class_key giver) ident def i.offered)

-- what is left is still exact
pub left_exact : (library : Library) (last : List ℕ) (at : ℕ) (old new : List (Option Table)) → AreLeft last at old new → AreTablesOf library old → AreTablesOf library new
left_exact library last at old new left exact node table has =
    ⊎_elim (λ same. exact node table (sym same ∙ has)) (λ gone. let none : None ≡ Some table = same_Some None (Some table) (sym gone.0 ∙ has) in cc) (left node)

-- and what those that come later need is there
pub left_ready : (library : Library) (arrows : List (List ℕ)) (order last : List ℕ) (at : ℕ) (old new : List (Option Table)) → AreLastUses arrows order last → AreLeft last at old new → AreReady library arrows order at old
    → (before after node next : ℕ) (class : List ℕ) (part : Component) → IsNodeAt order before next → IsNodeAt order after node → HasArrow arrows node next
    → IsEntryAt library.parts next (class_key class) part → before + 1 ≤ at → at + 1 ≤ after → (table : Table) × HasTable new next table
left_ready library arrows order last at old new uses left ready before after node next class part b a arrow entry early late =
    let has = ready before after node next class part b a arrow entry early (omega arith) in
    let used = uses after node next a arrow in
    ⊎_elim (λ same. (has.0, same ∙ has.1)) (λ gone. absurd (omega (arith, used, gone.1, late))) (left next)

module _ (library : Library) (arrows : List (List ℕ)) (order last : List ℕ) (is : IsOrder arrows order) (at place : ℕ) (here : IsNodeAt order at place) (key : Key) (part : Component) (entry : IsEntryAt library.parts place key part)
    (old new : List (Option Table)) (uses : AreLastUses arrows order last) (left : AreLeft last at old new) (ready : AreReady library arrows order at old) where
  -- where the entry is no class, those that come later need nothing more
  pub passed_ready : ((class : List ℕ) → key ≡ class_key class → ⊥) → AreReady library arrows order (at + 1) new
  passed_ready no_class before after node next class other b a arrow there early late =
      elim (cases_lt before at) [
        | inl lt ↦ left_ready library arrows order last at old new uses left ready before after node next class other b a arrow there (omega arith) late
        | inr ge ↦
            let same : before ≡ at = omega arith in
            let node_same : place ≡ next = same_Some place next (sym here ∙ ap (slice_get order) (sym same) ∙ b) in
            absurd (no_class class (one_entry library.parts next key (class_key class) part other (subst (λ p. IsEntryAt library.parts p key part) node_same entry) there).0)
      ]

  -- where it is one, its table is there
  pub put_ready : (table : Table) → place < length new → AreReady library arrows order (at + 1) (set new place (Some table))
  put_ready table within before after node next class other b a arrow there early late =
      elim (put_at new place (Some table) next within) [
        | inl same ↦ (table, same.1)
        | inr apart ↦
            elim (cases_lt before at) [
              | inl lt ↦
                  let has = left_ready library arrows order last at old new uses left ready before after node next class other b a arrow there (omega arith) late in
                  (has.0, apart.1 ∙ has.1)
              | inr ge ↦
                  let same : before ≡ at = omega arith in
                  absurd (apart.0 (same_Some place next (sym here ∙ ap (slice_get order) (sym same) ∙ b)))
            ]
      ]

  -- and it is right
  pub put_exact : (class : List ℕ) (table : Table) → key ≡ class_key class → IsTableOf library class table → place < length new → AreTablesOf library old → AreTablesOf library (set new place (Some table))
  put_exact class table is_class of_class within exact node other has =
      elim (put_at new place (Some table) node within) [
        | inl same ↦
            let one : table ≡ other = same_Some table other (same_Some (Some table) (Some other) (sym same.1 ∙ has)) in
            (class, part, subst (λ p. IsEntryAt library.parts p (class_key class) part) same.0 (subst (λ k. IsEntryAt library.parts place k part) is_class entry), subst (IsTableOf library class) one of_class)
        | inr apart ↦ left_exact library last at old new left exact node other (sym apart.1 ∙ has)
      ]

-- at first no class has a table
pub none_exact : (library : Library) (count : ℕ) (tables : List (Option Table)) → tables ≡ replicate count None → AreTablesOf library tables
none_exact library count tables none node table has = absurd (no_table count node (subst (λ ts. slice_get ts node ≡ Some (Some table)) none has))
  where
    no_table : (n i : ℕ) → slice_get (replicate n None) i ≡ Some (Some table) → ⊥
    no_table zero i h = cc
    no_table (suc n) zero h = let e : None ≡ Some table = same_Some None (Some table) h in cc
    no_table (suc n) (suc i) h = no_table n i h

-- and none was gone through
pub none_ready : (library : Library) (arrows : List (List ℕ)) (order : List ℕ) (tables : List (Option Table)) → AreReady library arrows order 0 tables
none_ready library arrows order tables before after node next class part b a arrow entry early late = absurd (omega arith)
