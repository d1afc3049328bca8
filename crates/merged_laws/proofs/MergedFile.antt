-- A tree that shows what is printed of a formed library declares it: one doc, with one declaration for each component, and the library after it is the library.
use Rattle.std.proofs.Common.{◌≡◌, ℕ, suc, Bool, true, false, ◌&&◌, not, if◌then◌else◌, List, [], ◌∷◌, ◌++◌, map, refl, sym, ap, subst, ◌∙◌, arith}
use Rattle.std.specs.Prelude.{codes, unwrap_or}
use Rattle.std.proofs.lemmas.Bool.{both_ways}
use Rattle.odd_text.specs.declared.key.Key.{Key}
use Rattle.odd_text.specs.declared.key.Kind.{Kind}
use Rattle.odd_text.specs.declared.key.Kind.TheVariants as of
use Rattle.odd_text.specs.Same.{is_same}
use Rattle.odd_text.specs.Standing.{StandsIn}
use Rattle.odd_tree.specs.Elements.{StandsWithin, children_of, within}
use Rattle.odd_tree.specs.Formed.{IsFormed}
use Rattle.odd_tree.specs.Markup.{Markup, all_of}
use Rattle.odd_tree.specs.declared.tree.Tree.{Tree}
use Rattle.odd_text.proofs.InList.{map_stands, nothing_stands, stands_map}
use Rattle.odd_tree.proofs.PrintedTrees.{Shows, binds_to}
use Rattle.odd_decls.proofs.OneDoc.{HasNone, one_read}
use Rattle.odd_decls.specs.Aside.{IsConstraintOf, IsLeftOut, IsReadOf}
use Rattle.odd_decls.specs.Declares.{Declares, DeclaresWhole, IsEntryOf, PlacesRise, namespace_of, start_of}
use Rattle.odd_decls.specs.Items.{IsSpecOf, at_of}
use Rattle.odd_decls.specs.Offences.{HasIdAgain, ItemFault, ItemsOffend, Offends, ReferencesOffend, SchemasOffend}
use Rattle.odd_forms.specs.Faults.{FormFault, OwnFault}
use Rattle.odd_forms.specs.Names.{is_one_of, tei_namespace}
use Rattle.odd_forms.specs.Table.{form_at}
use Rattle.odd_text.specs.Same.{is_among}
use Rattle.odd_forms.specs.Words.{words_of}
use Rattle.odd_forms.specs.declared.element.Element.{Element}
use Rattle.odd_forms.specs.declared.element.Element.TheVariants as kind
use Rattle.odd_items.proofs.Standing.{one_search}
use Rattle.odd_items.specs.Constraints.{IsConstraint, IsConstraintIn, IsReadIn}
use Rattle.odd_items.specs.Groups.{HoldsItems, IsItemIn, group_names, reference_names, schema_names}
use Rattle.odd_items.specs.Search.{Finds, FindsAmong, Found, children_found, is_searched, own}
use Rattle.odd_library.specs.Formed.{IsFormedLibrary, IsFormedPart}
use Rattle.odd_library.specs.Odd.{place_of}
use Rattle.odd_library.specs.declared.library.Component.{Component}
use Rattle.odd_library.specs.declared.library.Component.TheVariants as component
use Rattle.odd_library.specs.declared.library.Library.{Library}
use Rattle.odd_library.specs.declared.odd.Entry.{Entry}
use Rattle.odd_library.specs.declared.odd.OddDoc.{OddDoc}
use Rattle.odd_modes.specs.After.{IsLibraryAfter}
use Rattle.odd_emit.specs.Attributes.{ident_said}
use Rattle.odd_emit.specs.Components.{component_markup, entry_markup}
use Rattle.odd_emit.specs.Saying.{Said, says, some_names, spoken}
use Rattle.merged_laws.proofs.Entries.{AreFormedParts, library_parts, library_rises}
use Rattle.merged_laws.proofs.Fits.{MayStand}
use Rattle.merged_laws.proofs.Held.{AreEntriesFor, library_after}
use Rattle.merged_laws.proofs.NothingGone.{all_left}
use Rattle.merged_laws.proofs.Places.{RiseFrom, begins_at, children_rise, next_above}
use Rattle.merged_laws.proofs.ReadItems.{AreReadItems, IsEntryAnywhere, items_read}
use Rattle.merged_laws.proofs.Says.{IsHeard, Says, heard}
use Rattle.merged_laws.proofs.Sought.{AllShown, AreOther, Fewer, constraints_fewer, finds_nothing, groups_fewer, none_among, references_fewer, schemas_fewer, shown_inside}
use Rattle.merged_laws.proofs.Told.{AllOf}
use Rattle.merged_laws.proofs.Values.{names_words, words_back}
use Rattle.merged_laws.proofs.Vocabulary.{component_other}

-- what is printed of a library, without the declaration of the namespace, and what its root says
abbrev pub root_said : Library → List Said
root_said library = ident_said library.ident ∷ says (codes "start") (some_names library.start) ∷ []

abbrev pub shown_markup : Library → Markup
shown_markup library = spoken (codes "schemaSpec") (root_said library) (map entry_markup library.parts)

pub root_says : (library : Library) → IsFormedLibrary library → Says kind.SchemaSpec (root_said library) (map entry_markup library.parts)
root_says library f = record { sayable = refl; right = refl; formed = (f.ident, (record { some = f.start.some; named = f.start.named }, tt)); met = λ binds. tt; few = tt }

-- each component may stand there
part_may : (k : Kind) (ident : List ℕ) (part : Component) → IsFormedPart k part → MayStand kind.SchemaSpec (component_markup ident part)
part_may of.Element ident (component.Element part) f = refl
part_may of.Class ident (component.Class part) f = refl
part_may of.Macro ident (component.Macro part) f = refl
part_may of.Datatype ident (component.Datatype part) f = refl
part_may _ ident _ f = absurd f

all_may : (es : List (Key × Component)) → AreFormedParts es → AllOf (MayStand kind.SchemaSpec) (map entry_markup es)
all_may [] f = tt
all_may (e ∷ es) f = (part_may e.0.kind e.0.ident e.1 f.0.1, all_may es f.1)

pub parts_other : (es : List (Key × Component)) → AreFormedParts es → AreOther 64 (all_of (map entry_markup es))
parts_other [] f = tt
parts_other (e ∷ es) f = (component_other e.0.kind e.0.ident e.1 f.0.1, parts_other es f.1)

-- the root as what is found
abbrev pub the_root : Tree → Found
the_root t = record { around = []; element = t }

abbrev pub child_found : Tree → Tree → Found
child_found t child = record { around = within [] t; element = child }

-- what holds the items is the root, and they are its children, where these are no groups and no references to groups
module _ (t : Tree) (no_group : (child : Tree) → StandsIn (children_of t) child → is_one_of group_names child ≡ false) (no_reference : (child : Tree) → StandsIn (children_of t) child → is_one_of reference_names child ≡ false) where
  child_not : (names : List (List ℕ)) → ((child : Tree) → StandsIn (children_of t) child → is_one_of names child ≡ false) → (f : Found) → StandsIn (children_found (the_root t)) f → is_one_of names f.element ≡ true → ⊥
  child_not names none f stands named =
      let c = stands_map (child_found t) (children_of t) f stands in
      both_ways (is_one_of names f.element) (ap (λ (x : Found). is_one_of names x.element) c.2 ∙ none c.0 c.1) named

  holder_is : (holder : Found) → HoldsItems t (the_root t) holder → holder ≡ the_root t
  holder_is holder HoldsItems.itself = refl
  holder_is holder (HoldsItems.inside outer h stands named) =
      absurd (child_not group_names no_group holder (subst (λ f. StandsIn (children_found f) holder) (holder_is outer h) stands) named)
  holder_is holder (HoldsItems.referred outer reference id h stands refers is) =
      absurd (child_not reference_names no_reference reference (subst (λ f. StandsIn (children_found f) reference) (holder_is outer h) stands) refers.0)

  pub item_is_child : (schemas : List Found) (item : Found) → schemas ≡ the_root t ∷ [] → IsItemIn t schemas item → (child : Tree) × StandsIn (children_of t) child × (item ≡ child_found t child)
  item_is_child schemas item e (IsItemIn.held {schema = schema} holder h stands) =
      let same : schema ≡ the_root t = cc in
      let is = holder_is holder (subst (λ f. HoldsItems t f holder) same h) in
      stands_map (child_found t) (children_of t) item (subst (λ f. StandsIn (children_found f) item) is stands)
  item_is_child schemas item e (IsItemIn.bare found finds stands) = cc

pub child_is_item : (t child : Tree) → StandsIn (children_of t) child → IsItemIn t (the_root t ∷ []) (child_found t child)
child_is_item t child stands = IsItemIn.held (the_root t) HoldsItems.itself (map_stands (child_found t) (children_of t) child stands)

-- what is read in an element stands in it
read_within : {e g : Element} {t u : Tree} (c : Tree) → IsReadIn e t g u → StandsWithin u c → StandsWithin t c
read_within c IsReadIn.itself w = w
read_within c (IsReadIn.inside child is stands read) w = StandsWithin.inside child stands (read_within c read w)

constraint_within : (item c : Tree) → IsConstraintOf item c → StandsWithin item c × IsConstraint c
constraint_within item c (IsConstraintOf.itself k) = (StandsWithin.itself, k)
constraint_within item c (IsConstraintOf.inside e is (IsConstraintIn.child g parent read leaves stands k)) =
    (read_within c read (StandsWithin.inside c stands StandsWithin.itself), k)

module _ (library : Library) (t : Tree) (f : IsFormedLibrary library) (s : Shows tei_namespace (binds_to tei_namespace) (shown_markup library) t) where
  h : IsHeard kind.SchemaSpec (root_said library) (map entry_markup library.parts) t
  h = heard (binds_to tei_namespace) kind.SchemaSpec (root_said library) (map entry_markup library.parts) t (root_says library f) (all_may library.parts (library_parts library f)) s

  pub items : AreReadItems (children_of t) library.parts
  items = items_read (children_of t) library.parts (library_parts library f) (library_rises library f) h.told.children

  others : AreOther 64 (all_of (map entry_markup library.parts))
  others = parts_other library.parts (library_parts library f)

  shown : AllShown (all_of (map entry_markup library.parts)) (children_of t)
  shown = shown_inside (binds_to tei_namespace) (shown_markup library) t s

  -- no child of the root, and nothing in one, has a name that is looked for
  none_inside : (names : List (List ℕ)) → Fewer names → (child u : Tree) → StandsIn (children_of t) child → StandsWithin child u → is_one_of names u ≡ false
  none_inside names fewer child u stands w = none_among names fewer 64 (all_of (map entry_markup library.parts)) (children_of t) u others shown child stands w

  -- Where the items are

  root_own : (names : List (List ℕ)) (b : Bool) → is_among names (codes "schemaSpec") ≡ b → own names [] t ≡ (if b then the_root t ∷ [] else [])
  root_own names b is = ap (λ x. if x then the_root t ∷ [] else []) (ap (λ n. is_same n.ns tei_namespace && is_among names n.local) h.told.named ∙ is)

  root_searched : is_searched t ≡ true
  root_searched = ap (λ n. is_same n.ns tei_namespace && not (is_same n.ns tei_namespace && is_among (codes "constraintSpec" ∷ []) n.local)) h.told.named

  inside_finds : (names : List (List ℕ)) → Fewer names → FindsAmong names false (within [] t) (children_of t) []
  inside_finds names fewer = finds_nothing names fewer 64 (all_of (map entry_markup library.parts)) (children_of t) (within [] t) others shown

  pub finds_root : Finds schema_names false [] t (the_root t ∷ [])
  finds_root = Finds.through [] root_searched refl (inside_finds schema_names schemas_fewer) (sym (ap (λ fs. fs ++ []) (root_own schema_names true refl)))

  pub finds_no_group : Finds group_names false [] t []
  finds_no_group = Finds.through [] root_searched refl (inside_finds group_names groups_fewer) (sym (ap (λ fs. fs ++ []) (root_own group_names false refl)))

  -- an item of the file is a child of the root
  pub item_child : (item : Found) → IsItemIn t (the_root t ∷ []) item → (child : Tree) × StandsIn (children_of t) child × (item ≡ child_found t child)
  item_child item is =
      item_is_child t (λ child stands. none_inside group_names groups_fewer child child stands StandsWithin.itself)
      (λ child stands. none_inside reference_names references_fewer child child stands StandsWithin.itself) (the_root t ∷ []) item refl is

  -- What it offends

  no_reference : (item : Found) → IsItemIn t (the_root t ∷ []) item → is_one_of reference_names item.element ≡ true → ⊥
  no_reference item is named =
      let c = item_child item is in
      both_ways (is_one_of reference_names item.element)
      (ap (λ (x : Found). is_one_of reference_names x.element) c.2 ∙ none_inside reference_names references_fewer c.0 c.0 c.1 StandsWithin.itself) named

  schema_free : (schemas : List Found) (place rule : ℕ) → schemas ≡ the_root t ∷ [] → SchemasOffend schemas place rule → ⊥
  schema_free schemas place rule e (SchemasOffend.itself {first = first} fault at) =
      let same : first ≡ the_root t = cc in
      h.whole (within [] t) rule (FormFault.own (subst (λ (x : Found). OwnFault (form_at kind.SchemaSpec) (within x.around x.element) x.element rule) same fault))
  schema_free schemas place rule e (SchemasOffend.again {others = rest} other stands at) =
      let same : rest ≡ [] = cc in nothing_stands other (subst (λ xs. StandsIn xs other) same stands)

  item_free : (place rule : ℕ) → ItemsOffend t (the_root t ∷ []) place rule → ⊥
  item_free place rule (ItemsOffend.alone item is fault at) =
      let c = item_child item is in items.whole c.0 c.1 (within [] t) rule (subst (λ (x : Found). ItemFault x.around x.element rule) c.2 fault)
  item_free place rule (ItemsOffend.twice key earlier item is also before one other at) =
      let c = item_child earlier is in
      let d = item_child item also in
      let first : IsSpecOf key c.0 = subst (λ (x : Found). IsSpecOf key x.element) c.2 one in
      let later : IsSpecOf key d.0 = subst (λ (x : Found). IsSpecOf key x.element) d.2 other in
      let same : c.0 ≡ d.0 = items.once key c.0 d.0 c.1 d.1 first later in
      let places : at_of earlier ≡ at_of item = ap at_of c.2 ∙ ap begins_at same ∙ sym (ap at_of d.2) in
      omega (arith, before, places)

  reference_free : (place rule : ℕ) → ReferencesOffend t (the_root t ∷ []) place rule → ⊥
  reference_free place rule (ReferencesOffend.foreign item target has other at) = no_reference item has.is_item has.is_reference
  reference_free place rule (ReferencesOffend.unknown item id is refers none at) = no_reference item is refers.0
  reference_free place rule (ReferencesOffend.standing item group id is refers found stands at) = no_reference item is refers.0
  reference_free place rule (ReferencesOffend.again earlier item target has also before at) = no_reference earlier has.is_item has.is_reference

  group_free : (place : ℕ) → HasIdAgain t place → ⊥
  group_free place g =
      let none : g.before ++ g.later ∷ g.after ≡ [] = one_search group_names false [] t _ [] g.found finds_no_group in
      nothing_stands g.later (subst (λ xs. StandsIn xs g.later) none (g.before, g.after, refl))

  offends_free : (place rule : ℕ) → Offends t (the_root t ∷ []) place rule → ⊥
  offends_free place rule (Offends.schema o) = schema_free (the_root t ∷ []) place rule refl o
  offends_free place rule (Offends.item o) = item_free place rule o
  offends_free place rule (Offends.reference o) = reference_free place rule o
  offends_free place rule (Offends.group g) = group_free place g

  pub unoffended : HasNone t
  unoffended place rule o = offends_free place rule (subst (λ xs. Offends t xs place rule) (one_search schema_names false [] t o.schemas (the_root t ∷ []) o.found finds_root) o.offends)

  -- What it declares

  abbrev pub doc : OddDoc
  doc = record { ident = library.ident; start = library.start; entries = items.entries; asides = 0 }

  start_is : start_of t ≡ library.start
  start_is = ap (λ o. words_of (unwrap_or o (codes "TEI"))) (h.told.given (codes "start")) ∙ words_back library.start (names_words library.start f.start.named)

  around_is : namespace_of (the_root t ∷ []) ≡ tei_namespace
  around_is = ap (λ o. unwrap_or o tei_namespace) (h.told.given (codes "ns"))

  entry_there : (child : Tree) (e : Entry) → IsEntryAnywhere child e → IsEntryOf (namespace_of (the_root t ∷ [])) (child_found t child) e
  entry_there child e is = subst (λ ns. IsEntryOf ns (child_found t child) e) (sym around_is) (is (within [] t))

  entries_none_else : (e : Entry) → StandsIn items.entries e → (item : Found) × IsItemIn t (the_root t ∷ []) item × IsEntryOf (namespace_of (the_root t ∷ [])) item e
  entries_none_else e stands =
      let g = items.none_else e stands in (child_found t g.0, child_is_item t g.0 g.1, entry_there g.0 e g.2)

  entries_each : (item : Found) (made : Entry) → IsItemIn t (the_root t ∷ []) item → IsEntryOf (namespace_of (the_root t ∷ [])) item made → StandsIn items.entries made
  entries_each item made is read =
      let c = item_child item is in
      let g = items.each c.0 c.1 in
      let there : IsEntryOf (namespace_of (the_root t ∷ [])) item g.0 = subst (λ x. IsEntryOf (namespace_of (the_root t ∷ [])) x g.0) (sym c.2) (entry_there c.0 g.0 g.2) in
      subst (StandsIn items.entries) (one_read t (the_root t ∷ []) (namespace_of (the_root t ∷ [])) item g.0 made unoffended finds_root is there read) g.1

  places_rise : (first end : ℕ) → IsFormed first end t → PlacesRise items.entries
  places_rise first end formed before after e next same =
      next_above place_of (suc (begins_at t)) before after e next items.entries same (subst (RiseFrom (suc (begins_at t))) (sym items.places) (children_rise first end t formed))

  pub declares_whole : (first end : ℕ) → IsFormed first end t → DeclaresWhole t doc
  declares_whole first end formed = record {
    unoffended = unoffended;
    schemas = the_root t ∷ [];
    found = finds_root;
    ident = h.told.given (codes "ident");
    start = record { rising = f.start.rising; none_else = λ w stands. subst (λ ws. StandsIn ws w) (sym start_is) stands; each = λ w stands. subst (λ ws. StandsIn ws w) start_is stands };
    entries = record { none_else = entries_none_else; each = entries_each };
    rising = places_rise first end formed;
  }

  -- nothing is taken out of it
  none_left_out : (c : Tree) → IsLeftOut t (the_root t ∷ []) c → ⊥
  none_left_out c (item, is, k) =
      let child = item_child item is in
      let w = constraint_within child.0 c (subst (λ (x : Found). IsConstraintOf x.element c) child.2 k) in
      both_ways (is_one_of (codes "constraintSpec" ∷ []) c) (none_inside (codes "constraintSpec" ∷ []) constraints_fewer child.0 c child.1 w.0) w.1

  pub read_whole : (aside : Bool) → IsReadOf t aside t 0
  read_whole false = IsReadOf.whole
  read_whole true = IsReadOf.without (the_root t ∷ []) finds_root (all_left (IsLeftOut t (the_root t ∷ [])) (binds_to tei_namespace) (shown_markup library) t s (λ c w. none_left_out c))

  pub declares : (aside : Bool) (first end : ℕ) → IsFormed first end t → Declares t aside doc
  declares aside first end formed = record { read = t; is_read = read_whole aside; declares = declares_whole first end formed }

  pub entries_for : AreEntriesFor doc.entries library.parts
  entries_for = items.for

  -- the library after it is the library
  pub is_after : IsLibraryAfter (doc ∷ []) library
  is_after = library_after library doc f refl refl entries_for
