-- The first fault of the items of a file: of each by itself, and of those with the key of an earlier one.
use Rattle.std.proofs.Common.{◌≡◌, ◌↔◌, ◌⊎◌, ◌<◌, ◌+◌, ℕ, Bool, true, List, ◌∷◌, get_or, length, take, Option, Some, None, IsTrue, if◌then◌else◌, inl, inr, ⊎_elim, refl, sym, ap, subst, ◌∙◌, arith}
use Rattle.std.proofs.lemmas.Bool.Decides.{Decides-eqb}
use Rattle.std.proofs.lemmas.List.{get_or_default, length-append, length-take-le}
use Rattle.std.proofs.lemmas.Option.{same_Some}
use Rattle.std.specs.List.{All}
use Rattle.std.specs.Option.{option_eq}
use Rattle.std.specs.Prelude.{nat_eq}
use Rattle.odd_text.proofs.Least.{lesser_rule}
use Rattle.odd_forms.specs.Faults.{child_in}
use Rattle.odd_text.specs.Least.{IsLeast}
use Rattle.odd_forms.specs.Table.{form_at}
use Rattle.odd_forms.specs.declared.element.Element.TheVariants as element
use Rattle.odd_items.specs.Groups.{IsItemIn}
use Rattle.odd_items.specs.Listing.{AreItems, IsItemOf}
use Rattle.odd_items.specs.Search.{Found}
use Rattle.odd_items.specs.declared.listing.Item.{Item}
use Rattle.odd_items.specs.declared.searching.Level.{Level}
use Rattle.odd_library.specs.declared.fault.Fault.{Fault}
use Rattle.odd_text.specs.declared.key.Key.{Key}
use Rattle.odd_text.specs.declared.name.Bind.{Bind}
use Rattle.odd_text.proofs.InList.{ends, map_stands, stands_map}
use Rattle.odd_text.specs.Standing.{StandsIn}
use Rattle.odd_tree.specs.declared.tree.Tree.{Tree, out-Tree}
use Rattle.odd_decls.proofs.FirstFault.{BreaksAt, HasBefore, breaks_more, first_wider, itself_before, least_again, lesser_fault}
use Rattle.odd_decls.proofs.InPlaces.{before_begins, before_stands, begins_at, begins_before}
use Rattle.odd_decls.proofs.Where.{order, stands_at}
use Rattle.odd_decls.proofs.Where as where_in
use Rattle.odd_decls.specs.Faults.{IsFirstIn, fault_by}
use Rattle.odd_decls.specs.FileItems.{ItemsRise}
use Rattle.odd_decls.specs.Items.{IsSpecOf, IsTold, at_of}
use Rattle.odd_decls.specs.Offences.{ItemFault, ItemsOffend}
use Rattle.odd_decls.specs.Repeats.{IsRepeat}

-- an item that is found so tells which element of the table it is
pub item_told : (levels : List Level) (item : Item) (found : Found) → IsItemOf levels item found → IsTold item
item_told levels item found is = is.element ∙ ap (child_in (form_at element.SchemaSpec)) (sym is.tree)

-- so do all items
pub all_told : (levels : List Level) (items : List Item) (Is : Found → Type 0) → AreItems levels items Is → All IsTold items
all_told levels items Is are k d within =
    let found = are.none_else (get_or items k d) (stands_at items k (get_or items k d) within (get_or_default items k d (get_or items k d) within)) in
    item_told levels (get_or items k d) found.0 found.1

-- what an item breaks by itself, or rule 4 where it has the key of an earlier one
abbrev pub IsBroken : Found → Bool → ℕ → Type 0
IsBroken found again rule = ItemFault found.around found.element rule ⊎ (IsTrue again × (rule ≡ 4))

-- the least such rule
pub broken_least : (levels : List Level) (item : Item) (found : Found) (binds : List Bind) (again : Bool) (own repeated least : Option ℕ) → IsItemOf levels item found → binds ≡ found.around
    → (IsTold item → IsLeast (ItemFault binds item.tree.now) own) → repeated ≡ (if again then Some 4 else None) → least ≡ lesser_rule own repeated → IsLeast (IsBroken found again) least
broken_least levels item found binds again own repeated least is around h told e =
    least_again (ItemFault found.around found.element) again own repeated least
    (subst (λ t. IsLeast (ItemFault found.around t) own) is.tree (subst (λ bs. IsLeast (ItemFault bs item.tree.now) own) around (h (item_told levels item found is)))) told e

-- the test of a place
pub is_at_place : (o : Option ℕ) (place : ℕ) → (option_eq nat_eq o (Some place) ≡ true) ↔ (o ≡ Some place)
is_at_place None place = (λ t. cc, λ e. cc)
is_at_place (Some n) place = (λ t. ap Some ((Decides-eqb n place).0 t), λ e. (Decides-eqb n place).1 (same_Some n place e))

-- in a file with these `schemaSpec`, levels and items, where this is the first place of an item with the key of an earlier one
module _ (t : Tree) (schemas : List Found) (levels : List Level) (items : List Item) (repeat : Option ℕ) where
  -- what an item breaks by itself
  abbrev pub BreaksAlone : Item → ℕ → Type 0
  BreaksAlone item rule = (found : Found) × IsItemOf levels item found × IsItemIn t schemas found × ItemFault found.around found.element rule

  -- or as the first that has the key of an earlier one
  abbrev pub Breaks : List Item → Item → ℕ → Type 0
  Breaks before item rule = BreaksAlone item rule ⊎ ((repeat ≡ Some (length before)) × (rule ≡ 4))

  module _ (are : AreItems levels items (IsItemIn t schemas)) where
    -- the least rule that an item breaks
    pub breaks_least : (before : List Item) (item : Item) (again : Bool) (o : Option ℕ) → StandsIn items item → (again ≡ true) ↔ (repeat ≡ Some (length before))
        → ((found : Found) → IsItemOf levels item found → IsLeast (IsBroken found again) o) → IsLeast (Breaks before item) o
    breaks_least before item again None s told least = λ rule f. ⊎_elim (λ a. least a.0 a.1 rule (inl a.3)) (λ b. let g = are.none_else item s in least g.0 g.1 rule (inr (told.1 b.0, b.1))) f
    breaks_least before item again (Some r) s told least =
        let g = are.none_else item s in
        let own = least g.0 g.1 in (
          ⊎_elim (λ f. inl (g.0, g.1, g.2, f)) (λ a. inr (told.0 a.0, a.1)) own.0,
          λ rule f. ⊎_elim (λ a. (least a.0 a.1).1 rule (inl a.3)) (λ b. own.1 rule (inr (told.1 b.0, b.1))) f,
        )

    -- the first fault with one item more
    pub items_more : (list : List Item) (place : ℕ) (item : Item) (again : Bool) (rule : Option ℕ) (a fault o : Option Fault) → list ≡ items → place < length list → item ≡ get_or list place item
        → again ≡ option_eq nat_eq repeat (Some place) → ((found : Found) → IsItemOf levels item found → IsLeast (IsBroken found again) rule) → fault ≡ fault_by (begins_at item) rule
        → o ≡ lesser_fault a fault → IsFirstIn (BreaksAt Breaks (take place list)) a → IsFirstIn (BreaksAt Breaks (take (place + 1) list)) o
    items_more list place item again rule a fault o all within there e least is lesser h =
        let before = take place list in
        let many : length before ≡ place = length-take-le place list (omega arith) in
        let test = is_at_place repeat place in
        let told : (again ≡ true) ↔ (repeat ≡ Some (length before)) = (λ t. test.0 (sym e ∙ t) ∙ ap Some (sym many), λ r. e ∙ test.1 (r ∙ ap Some many)) in
        let own = breaks_least before item again rule (subst (λ xs. StandsIn xs item) all (stands_at list place item within there)) told least in
        subst (IsFirstIn (BreaksAt Breaks (take (place + 1) list))) (sym (lesser ∙ ap (lesser_fault a) is))
        (subst (λ xs. IsFirstIn (BreaksAt Breaks xs) (lesser_fault a (fault_by (begins_at item) rule))) (sym (ends list place item within there)) (breaks_more Breaks before item a rule h own))

    module _ (rises : ItemsRise items) where
      -- an item with the key of an earlier one offends
      repeat_offends : (place : ℕ) (r : IsRepeat items place) → ItemsOffend t schemas (begins_at r.item) 4
      repeat_offends place r =
          let e = stands_map (λ (i : Item). i.tree.now) r.before r.again.2.0 r.again.2.1 in
          let one = are.none_else e.0 (before_stands items r.before r.item r.after rises r.parts e.0 e.1) in
          let two = are.none_else r.item (r.before, r.after, r.parts) in
          let low : begins_at e.0 < begins_at r.item = before_begins items r.before r.item r.after rises r.parts e.0 e.1 in
          let at : begins_at e.0 ≡ at_of one.0 = ap (λ u. (out-Tree u).at) one.1.tree in
          let here : begins_at r.item ≡ at_of two.0 = ap (λ u. (out-Tree u).at) two.1.tree in
          ItemsOffend.twice r.again.0 one.0 two.0 one.2 two.2 (omega arith) (subst (IsSpecOf r.again.0) (e.2 ∙ one.1.tree) r.again.2.2) (subst (IsSpecOf r.again.0) two.1.tree r.again.1) here

      -- so an item that breaks a rule offends
      breaks_offends : IsLeast (IsRepeat items) repeat → (place rule : ℕ) → BreaksAt Breaks items place rule → ItemsOffend t schemas place rule
      breaks_offends first place rule s =
          ⊎_elim (λ a. ItemsOffend.alone a.0 a.2 a.3 (s.is.1 ∙ ap (λ u. (out-Tree u).at) a.1.tree))
          (λ b.
          let least : IsLeast (IsRepeat items) (Some (length s.before)) = subst (IsLeast (IsRepeat items)) b.0 first in
          let r = least.0 in
          let many = r.many in
          let offends = repeat_offends (length s.before) r in
          elim (order r.before r.item r.after s.before s.item s.after (sym r.parts ∙ s.parts)) [
            | where_in.earlier q h k ↦ absurd (omega (arith, ap length h, length-append s.before (s.item ∷ q)))
            | where_in.same h i k ↦ subst (ItemsOffend t schemas place) (sym b.1) (subst (λ at. ItemsOffend t schemas at 4) (ap begins_at i ∙ sym s.is.1) offends)
            | where_in.later q h k ↦ absurd (omega (arith, ap length h, length-append r.before (r.item ∷ q)))
          ]) s.is.0

      -- of two items of which the second has the key of the first, it or an item before it breaks rule 4
      twice_before : IsLeast (IsRepeat items) repeat → (key : Key) (earlier item : Item) → StandsIn items earlier → StandsIn items item → begins_at earlier < begins_at item
          → IsSpecOf key earlier.tree.now → IsSpecOf key item.tree.now → HasBefore (BreaksAt Breaks items) (begins_at item) 4
      twice_before first key earlier item s k low one two =
          let before = begins_before items k.0 item k.1 rises k.2 earlier s low in
          by_first repeat refl first (record {
            before = k.0;
            item = item;
            after = k.1;
            parts = k.2;
            many = refl;
            again = (key, two, (earlier.tree.now, map_stands (λ (i : Item). i.tree.now) k.0 earlier before, one));
          })
        where
          by_first : (o : Option ℕ) → repeat ≡ o → IsLeast (IsRepeat items) o → IsRepeat items (length k.0) → HasBefore (BreaksAt Breaks items) (begins_at item) 4
          by_first None e none r = absurd (none (length k.0) r)
          by_first (Some place) e least r =
              let f = least.0 in
              let many = f.many in
              let below = least.1 (length k.0) r in (
                begins_at f.item,
                4,
                record { before = f.before; item = f.item; after = f.after; parts = f.parts; is = (inr (e ∙ ap Some (sym f.many), refl), refl) },
                elim (order f.before f.item f.after k.0 item k.1 (sym f.parts ∙ k.2)) [
                  | where_in.earlier q h j ↦ absurd (omega (arith, ap length h, length-append k.0 (item ∷ q)))
                  | where_in.same h i j ↦ inr (ap begins_at i, omega arith)
                  | where_in.later q h j ↦ inl (before_begins items k.0 item k.1 rises k.2 f.item (f.before, q, h))
                ],
              )

      -- and where an item offends one breaks a rule before it or there
      offends_before : IsLeast (IsRepeat items) repeat → (place rule : ℕ) → ItemsOffend t schemas place rule → HasBefore (BreaksAt Breaks items) place rule
      offends_before first place rule (ItemsOffend.alone found is_in fault at) =
          let i = are.each found is_in in
          itself_before (BreaksAt Breaks items) place rule (record {
            before = i.1.0;
            item = i.0;
            after = i.1.1;
            parts = i.1.2;
            is = (inl (found, i.2, is_in, fault), at ∙ ap (λ u. (out-Tree u).at) (sym i.2.tree));
          })
      offends_before first place rule (ItemsOffend.twice key earlier found one_in two_in low one two at) =
          let i = are.each earlier one_in in
          let j = are.each found two_in in
          let here : begins_at i.0 ≡ at_of earlier = ap (λ u. (out-Tree u).at) i.2.tree in
          let there : begins_at j.0 ≡ at_of found = ap (λ u. (out-Tree u).at) j.2.tree in
          subst (λ p. HasBefore (BreaksAt Breaks items) p 4) (there ∙ sym at)
          (twice_before first key i.0 j.0 i.1 j.1 (omega arith) (subst (IsSpecOf key) (sym i.2.tree) one) (subst (IsSpecOf key) (sym j.2.tree) two))

      -- the first of all items is the first of the file's
      pub items_first : (o : Option Fault) → IsLeast (IsRepeat items) repeat → IsFirstIn (BreaksAt Breaks items) o → IsFirstIn (ItemsOffend t schemas) o
      items_first o first h = first_wider (BreaksAt Breaks items) (ItemsOffend t schemas) o (breaks_offends first) (offends_before first) h
