-- The items of a file, read one after the other as entries.
use Rattle.std.proofs.Common.{◌≡◌, ◌<◌, ◌≤◌, ◌+◌, ℕ, List, [], ◌∷◌, ◌++◌, length, get_or, drop, Option, Some, None, inl, inr, refl, sym, ap, subst, ◌∙◌, append_assoc, false, arith}
use Rattle.std.proofs.lemmas.List.{append-nil, drop_all}
use Rattle.odd_forms.specs.Faults.{child_in}
use Rattle.odd_forms.specs.Table.{form_at}
use Rattle.odd_forms.specs.declared.element.Element.TheVariants as element
use Rattle.odd_items.specs.Groups.{IsItemIn, schema_names}
use Rattle.odd_items.specs.Listing.{AreItems, IsItemOf}
use Rattle.odd_items.specs.Search.{Finds, Found}
use Rattle.odd_items.specs.Searching.{IsAround}
use Rattle.odd_items.specs.declared.listing.Item.{Item}
use Rattle.odd_items.specs.declared.searching.Level.{Level}
use Rattle.odd_library.specs.Odd.{place_of}
use Rattle.odd_library.specs.declared.odd.Entry.{Entry}
use Rattle.odd_text.specs.declared.name.Bind.{Bind}
use Rattle.odd_text.proofs.InList.{begins, first_or_later, nothing_stands, stands_first, stands_later}
use Rattle.odd_text.specs.Standing.{StandsIn}
use Rattle.odd_tree.specs.declared.tree.Tree.{Tree, out-Tree}
use Rattle.odd_decls.proofs.OneDoc.{HasNone, one_read}
use Rattle.odd_decls.specs.Declares.{AreEntriesOf, IsEntryOf, PlacesRise, namespace_of}
use Rattle.odd_decls.specs.FileItems.{ItemsRise}
use Rattle.odd_decls.specs.ItemReading.{GivesEntry}
use Rattle.odd_decls.specs.Items.{IsTold, at_of}

-- an entry is at the place of its item
pub entry_place : (ns : List ℕ) (item : Found) (e : Entry) → IsEntryOf ns item e → place_of e ≡ at_of item
entry_place ns item _ (IsEntryOf.«module» is key) = refl
entry_place ns item _ (IsEntryOf.take e is kind key) = refl
entry_place ns item _ (IsEntryOf.spec is) = refl

module _ (levels : List Level) (ns : List ℕ) where
  -- what an item gives under the declarations that are in force at its level
  abbrev pub Gives : Item → Option Entry → Type 0
  Gives item given = (around : List Bind) → IsAround levels item.level around → IsTold item → GivesEntry ns (record { around = around; element = item.tree.now }) given

  -- the entries that items give, in their order
  pub data AreMade : List Item → List Entry → Type 0 where
    none : AreMade [] []
    some : {items : List Item} {entries : List Entry} (item : Item) (e : Entry) → Gives item (Some e) → AreMade items entries → AreMade (item ∷ items) (e ∷ entries)
    passed : {items : List Item} {entries : List Entry} (item : Item) → Gives item None → AreMade items entries → AreMade (item ∷ items) entries

  -- those so far, where those of the rest are still to come
  abbrev pub AreMadeSoFar : List Item → ℕ → List Entry → Type 0
  AreMadeSoFar items place entries = (later : List Entry) → AreMade (drop place items) later → AreMade items (entries ++ later)

  -- at first there are none
  pub none_made : (items : List Item) (entries : List Entry) → entries ≡ [] → AreMadeSoFar items 0 entries
  none_made items entries empty later made = subst (λ es. AreMade items (es ++ later)) (sym empty) made

  -- entries, with the one that an item gives
  abbrev pub with_entry : List Entry → Option Entry → List Entry
  with_entry entries None = entries
  with_entry entries (Some e) = entries ++ e ∷ []

  -- with the next item
  pub more_made : (items : List Item) (place : ℕ) (entries new : List Entry) (item : Item) (given : Option Entry) → AreMadeSoFar items place entries → place < length items → item ≡ get_or items place item
      → Gives item given → new ≡ with_entry entries given → AreMadeSoFar items (place + 1) new
  more_made items place entries new item None so_far within is gives e later made =
      subst (λ es. AreMade items (es ++ later)) (sym e) (so_far later (subst (λ rest. AreMade rest later) (sym (begins items place item within is)) (passed item gives made)))
  more_made items place entries new item (Some one) so_far within is gives e later made =
      subst (λ es. AreMade items (es ++ later)) (sym e)
      (subst (AreMade items) (sym (append_assoc entries (one ∷ []) later))
      (so_far (one ∷ later) (subst (λ rest. AreMade rest (one ∷ later)) (sym (begins items place item within is)) (some item one gives made))))

  -- at the end they are those of all items
  pub all_made : (items : List Item) (place : ℕ) (entries : List Entry) → AreMadeSoFar items place entries → length items ≤ place → AreMade items entries
  all_made items place entries so_far end =
      subst (AreMade items) (append-nil entries) (so_far [] (subst (λ rest. AreMade rest []) (sym (drop_all place items end)) none))

  -- each entry is given by an item
  entry_from : {items : List Item} {entries : List Entry} → AreMade items entries → (e : Entry) → StandsIn entries e → (item : Item) × StandsIn items item × Gives item (Some e)
  entry_from none e s = absurd (nothing_stands e s)
  entry_from (some {items = items} {entries = entries} item one gives made) e s =
      elim (first_or_later one e entries s) [
        | inl same ↦ (item, stands_first item items, subst (λ x. Gives item (Some x)) (sym same) gives)
        | inr later ↦ let h = entry_from made e later in (h.0, stands_later item h.0 items h.1, h.2)
      ]
  entry_from (passed {items = items} item gives made) e s = let h = entry_from made e s in (h.0, stands_later item h.0 items h.1, h.2)

  -- what an item gives, which stands among the entries, if it is one
  abbrev IsAmong : List Entry → Option Entry → Type 0
  IsAmong entries None = Unit {0}
  IsAmong entries (Some e) = StandsIn entries e

  -- it stands among more entries
  among_later : (e : Entry) (entries : List Entry) (given : Option Entry) → IsAmong entries given → IsAmong (e ∷ entries) given
  among_later e entries None s = tt
  among_later e entries (Some x) s = stands_later e x entries s

  -- each item gives one of the entries, or none
  item_gives : {items : List Item} {entries : List Entry} → AreMade items entries → (item : Item) → StandsIn items item → (given : Option Entry) × Gives item given × IsAmong entries given
  item_gives none item s = absurd (nothing_stands item s)
  item_gives (some {items = items} {entries = entries} one e gives made) item s =
      elim (first_or_later one item items s) [
        | inl same ↦ (Some e, subst (λ i. Gives i (Some e)) (sym same) gives, stands_first e entries)
        | inr later ↦ let h = item_gives made item later in (h.0, h.1, among_later e entries h.0 h.2)
      ]
  item_gives (passed {items = items} {entries = entries} one gives made) item s =
      elim (first_or_later one item items s) [
        | inl same ↦ (None, subst (λ i. Gives i None) (sym same) gives, tt)
        | inr later ↦ item_gives made item later
      ]

  -- an item begins at the place of the entry that it gives
  abbrev IsPlaced : Item → Type 0
  IsPlaced item = (e : Entry) → Gives item (Some e) → place_of e ≡ (out-Tree item.tree.now).at

  -- the others rise too
  rest_rise : (item : Item) (items : List Item) → ItemsRise (item ∷ items) → ItemsRise items
  rest_rise item items rise before between after one other is = rise (item ∷ before) between after one other (ap (λ rest. item ∷ rest) is)

  -- so where items rise their entries do
  entries_rise : {items : List Item} {entries : List Entry} → AreMade items entries → ItemsRise items → ((item : Item) → StandsIn items item → IsPlaced item) → PlacesRise entries
  entries_rise none rise placed before after e next is = absurd (nothing_stands e (before, next ∷ after, is))
  entries_rise (some {items = items} {entries = entries} item one gives made) rise placed [] after e next is =
      let first : one ≡ e = cc in
      let rest : entries ≡ next ∷ after = cc in
      let from = entry_from made next ([], after, rest) in
      let here = placed item (stands_first item items) one gives in
      let there = placed from.0 (stands_later item from.0 items from.1) next from.2 in
      let less = rise [] from.1.0 from.1.1 item from.0 (ap (λ more. item ∷ more) from.1.2) in
      subst (λ x. place_of x < place_of next) first (omega (arith, here, there, less))
  entries_rise (some {items = items} {entries = entries} item one gives made) rise placed (b ∷ before) after e next is =
      let rest : entries ≡ before ++ e ∷ (next ∷ after) = cc in
      entries_rise made (rest_rise item items rise) (λ i s. placed i (stands_later item i items s)) before after e next rest
  entries_rise (passed {items = items} item gives made) rise placed before after e next is =
      entries_rise made (rest_rise item items rise) (λ i s. placed i (stands_later item i items s)) before after e next is

  -- what an item gives is what the element that it is gives
  gives_found : (item : Item) (found : Found) (given : Option Entry) → IsItemOf levels item found → Gives item given → GivesEntry ns found given
  gives_found item found given of gives =
      subst (λ t. GivesEntry ns (record { around = found.around; element = t }) given) of.tree
      (gives found.around of.level (of.element ∙ ap (child_in (form_at element.SchemaSpec)) (sym of.tree)))

-- the entries of the items of a file that has no offence
pub entries_read : (t : Tree) (schemas : List Found) (levels : List Level) (items : List Item) (ns : List ℕ) (entries : List Entry) → HasNone t → Finds schema_names false [] t schemas
    → AreItems levels items (IsItemIn t schemas) → ItemsRise items → ns ≡ namespace_of schemas → AreMade levels ns items entries → AreEntriesOf t schemas entries × PlacesRise entries
entries_read t schemas levels items ns entries unoffended finds are rise same made = (record { none_else = from; each = each }, entries_rise levels ns made rise placed)
  where
    from : (e : Entry) → StandsIn entries e → (item : Found) × IsItemIn t schemas item × IsEntryOf (namespace_of schemas) item e
    from e s =
        let h = entry_from levels ns made e s in
        let of = are.none_else h.0 h.1 in
        (of.0, of.2, subst (λ n. IsEntryOf n of.0 e) same (gives_found levels ns h.0 of.0 (Some e) of.1 h.2))

    by_given : (item : Found) (e : Entry) → IsItemIn t schemas item → IsEntryOf ns item e → (given : Option Entry) → GivesEntry ns item given → IsAmong levels ns entries given → StandsIn entries e
    by_given item e is read None gives s = absurd (gives e read)
    by_given item e is read (Some other) gives s = subst (StandsIn entries) (one_read t schemas ns item other e unoffended finds is gives read) s

    each : (item : Found) (e : Entry) → IsItemIn t schemas item → IsEntryOf (namespace_of schemas) item e → StandsIn entries e
    each item e is read =
        let h = are.each item is in
        let g = item_gives levels ns made h.0 h.1 in
        by_given item e is (subst (λ n. IsEntryOf n item e) (sym same) read) g.0 (gives_found levels ns h.0 item g.0 h.2 g.1) g.2

    placed : (item : Item) → StandsIn items item → IsPlaced levels ns item
    placed item s e gives =
        let of = are.none_else item s in
        entry_place ns of.0 e (gives_found levels ns item of.0 (Some e) of.1 gives) ∙ ap (λ u. (out-Tree u).at) (sym of.1.tree)
