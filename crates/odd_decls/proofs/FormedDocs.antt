-- What the tree of a formed file declares is formed.
use Rattle.std.proofs.Common.{◌≡◌, ◌++◌, ◌||◌, ℕ, Bool, true, false, List, [], ◌∷◌, Option, Some, None, if◌then◌else◌, inl, inr, refl, sym, ap, subst, ◌∙◌, get_or, codes, ⊎_elim, is_some}
use Rattle.std.proofs.lemmas.Bool.{both_ways, cases_Bool, false_from_ne_true}
use Rattle.std.proofs.lemmas.List.Elements.{All-cons, All-contains, All-contains_itself, All-nil, All-weaker}
use Rattle.std.proofs.lemmas.Option.{same_Some}
use Rattle.std.specs.List.{Contains}
use Rattle.std.specs.Option.{IfSome, option_map}
use Rattle.std.specs.Prelude.{IsSome, IsTrue, unwrap_or}
use Rattle.odd_attributes.proofs.FormedReading.{attlist_formed, by_child, is_kind, kind_named}
use Rattle.odd_attributes.specs.Formed.{AreFormedEdits}
use Rattle.odd_attributes.specs.Giving.{AreEditsGiven, alt_given}
use Rattle.odd_attributes.specs.declared.att_edit.AttEdit.{AttEdit}
use Rattle.odd_content.proofs.DataContents.{data_content_formed}
use Rattle.odd_content.proofs.Formed.{content_formed, except, include, pick_formed, within_bound}
use Rattle.odd_content.proofs.Unbroken.{legal_given}
use Rattle.odd_content.proofs.FormedTrees.{IsFormedSomewhere, child_formed, tag_formed}
use Rattle.odd_content.specs.Formed.{AreBound, IsFormedContent}
use Rattle.odd_content.specs.Giving.{IsContentOf}
use Rattle.odd_forms.proofs.Children.{found_among}
use Rattle.odd_forms.proofs.Colon.{name_decides}
use Rattle.odd_text.proofs.Least.{any_stands}
use Rattle.odd_forms.specs.Children.{GivesOne, IsChild}
use Rattle.odd_forms.specs.Deep.{DeepFault, is_level, left_inside}
use Rattle.odd_forms.specs.Excepting.{is_name}
use Rattle.odd_forms.specs.Faults.{AttributeFault, DemandFault, FormFault, OwnFault, ValueFault, has_named}
use Rattle.odd_forms.specs.Form.{AreNames, AttributeForm, Suits, name, names, own_text}
use Rattle.odd_forms.specs.Names.{first_named, is_one_of, tei, tei_namespace}
use Rattle.odd_text.specs.Sorted.{IsSet}
use Rattle.odd_forms.specs.Table.{form_at, key, needed, optional}
use Rattle.odd_forms.specs.Texts.{collapsed_in}
use Rattle.odd_text.specs.Same.{is_among}
use Rattle.odd_forms.specs.Words.{is_given_among, words_of}
use Rattle.odd_forms.specs.declared.element.Element.{Element}
use Rattle.odd_forms.specs.declared.element.Element.TheVariants as element
use Rattle.odd_items.proofs.Standing.{StandsUnder, found_under, item_under}
use Rattle.odd_items.specs.Groups.{IsItemIn, schema_names}
use Rattle.odd_items.specs.Search.{Finds, Found}
use Rattle.odd_library.specs.Formed.{AreStartWords, HasFieldsOf, IsFormedContentOf, IsFormedDoc, IsFormedEntry, IsFormedSpec, IsModule, IsWholeIn, StandsAlone}
use Rattle.odd_library.specs.declared.odd.Entry.{Entry}
use Rattle.odd_library.specs.declared.odd.OddDoc.{OddDoc}
use Rattle.odd_library.specs.declared.spec.Mode.{Mode}
use Rattle.odd_library.specs.declared.spec.Mode.TheVariants as mode
use Rattle.odd_library.specs.declared.spec.Spec.{Spec}
use Rattle.odd_library.proofs.FormedMembers.{membership_formed}
use Rattle.odd_library.specs.FormedMembers.{IsFormedMembership}
use Rattle.odd_library.specs.Members.{IsMembershipOf}
use Rattle.odd_text.specs.Text.{text_cmp}
use Rattle.odd_text.specs.declared.key.Kind.{Kind}
use Rattle.odd_text.specs.declared.key.Kind.TheVariants as kind
use Rattle.odd_text.specs.declared.name.Bind.{Bind}
use Rattle.odd_tokens.proofs.Ascii as ascii
use Rattle.odd_tokens.specs.Characters.{IsLegal, IsNCName}
use Rattle.odd_text.specs.Same.{is_same}
use Rattle.odd_text.proofs.InList.{contained, first_or_later, nothing_stands, only_item, standing, stands_first, stands_later}
use Rattle.odd_text.specs.Standing.{StandsIn}
use Rattle.odd_tree.specs.Elements.{children_of, given, within}
use Rattle.odd_tree.specs.Formed.{IsFormed, IsFormedTag}
use Rattle.odd_tree.specs.Names.{IsBinding}
use Rattle.odd_tree.specs.declared.tree.Tree.{Tree}
use Rattle.odd_decls.proofs.FaultsAnywhere.{fault_anywhere}
use Rattle.odd_decls.proofs.ItemElements.{each_item}
use Rattle.odd_decls.proofs.KeysOnce.{keys_once}
use Rattle.odd_decls.specs.Declares.{AreAttsDeclared, DeclaresWhole, IsEntryOf, IsReadAs, alt_declared, content_of, ident_in, kind_taken, mode_given, mode_named, namespace_by, namespace_of, namespace_with, start_in, start_of, type_given}
use Rattle.odd_decls.specs.Items.{IsItem, kind_declared}
use Rattle.odd_decls.specs.Offences.{ItemFault, ItemsOffend, Offends, SchemasOffend}

-- a text that can't but be a name is one
sure_name : (value : List ℕ) → ((IsNCName value → ⊥) → ⊥) → IsNCName value
sure_name value sure = ⊎_elim (name_decides value).0 (λ no. absurd (sure (λ named. both_ways (is_name value) no ((name_decides value).1 named)))) (cases_Bool (is_name value))

-- and so are words
sure_names : (words : List (List ℕ)) → ((AreNames words → ⊥) → ⊥) → AreNames words
sure_names words sure = record {
  some = λ none. sure (λ are. are.some none);
  named = λ k d below. sure_name (get_or words k d) (λ no. sure (λ are. no (are.named k d below)));
}

-- an element breaks nothing by the attribute
abbrev IsKept : AttributeForm → Tree → Type 0
IsKept a t = (rule : ℕ) → AttributeFault a t rule → ⊥

-- so a value of it that is not left out can't but be of its kind
kept_suits : (a : AttributeForm) (t : Tree) (value : List ℕ) → IsKept a t → is_among a.left_out value ≡ false → given t a.local ≡ Some value → (Suits a.kind value → ⊥) → ⊥
kept_suits a t value kept stays is other = kept a.rule (AttributeFault.value value is (ValueFault.malformed stays other))

key_named : (t : Tree) (value : List ℕ) → IsKept key t → given t (codes "key") ≡ Some value → IsNCName value
key_named t value kept is = sure_name value (kept_suits key t value kept refl is)

-- what holds where no value is given, and of each that may be given
by_value : (P : Option (List ℕ) → Type 0) (o : Option (List ℕ)) → (o ≡ None → P None) → ((value : List ℕ) → o ≡ Some value → P (Some value)) → P o
by_value P None none some = none refl
by_value P (Some value) none some = some value refl

module_named : (t : Tree) → IsKept (optional (codes "module") name) t → IsModule (unwrap_or (given t (codes "module")) [])
module_named t kept =
    by_value (λ o. IsModule (unwrap_or o [])) (given t (codes "module")) (λ _. inl refl)
    (λ value is. inr (sure_name value (kept_suits (optional (codes "module") name) t value kept refl is)))

start_named : (t : Tree) → IsKept (optional (codes "start") names) t → AreNames (start_of t)
start_named t kept =
    by_value (λ o. AreNames (words_of (unwrap_or o (codes "TEI")))) (given t (codes "start"))
    (λ _. record { some = λ none. cc; named = All-cons IsNCName (codes "TEI") [] (ascii.is_name (codes "TEI") refl) (All-nil IsNCName) })
    (λ value is. sure_names (words_of value) (kept_suits (optional (codes "start") names) t value kept refl is))

-- start words are in order, and there is one
start_formed : (start words : List (List ℕ)) → AreNames start → IsSet text_cmp (StandsIn start) words → AreStartWords words
start_formed [] words are set = absurd (are.some refl)
start_formed (first ∷ more) words are set = record {
  some = λ none. nothing_stands first (subst (λ ws. StandsIn ws first) none (set.each first (stands_first first more)));
  rising = set.rising;
  named = All-weaker (Contains words) IsNCName
      (λ word c. All-contains IsNCName (first ∷ more) word are.named (contained (first ∷ more) word (set.none_else word (standing words word c)))) words (All-contains_itself words);
}

-- what holds of each element that declares a component, with its kind, holds of one that does
each_declared : (P : Element → Kind → Type 0) → P element.ElementSpec kind.Element → P element.ClassSpec kind.Class → P element.MacroSpec kind.Macro → P element.DataSpec kind.Datatype
    → (e : Element) (k : Kind) → kind_declared e ≡ Some k → P e k
each_declared P es cs ms ds element.ElementSpec k is = subst (P element.ElementSpec) (same_Some _ _ is) es
each_declared P es cs ms ds element.ClassSpec k is = subst (P element.ClassSpec) (same_Some _ _ is) cs
each_declared P es cs ms ds element.MacroSpec k is = subst (P element.MacroSpec) (same_Some _ _ is) ms
each_declared P es cs ms ds element.DataSpec k is = subst (P element.DataSpec) (same_Some _ _ is) ds
each_declared P es cs ms ds e k is = cc

-- an item that takes a component has a key
takes_keyed : (e : Element) (k : Kind) → kind_taken e ≡ Some k → StandsIn (form_at e).attributes key
takes_keyed element.ElementRefItem k is = stands_first _ _
takes_keyed element.ClassRefItem k is = stands_first _ _
takes_keyed element.MacroRefItem k is = stands_first _ _
takes_keyed element.DataRefItem k is = stands_first _ _
takes_keyed e k is = cc

-- a child that may not stand there gives nothing
gives_nothing : {X : Type 0} (e kind : Element) (IsOf : Tree → X → Type 0) (children : List Tree) (o : Option X) → (StandsIn ((form_at e).many ++ (form_at e).once) kind → ⊥)
    → GivesOne e kind IsOf children o → o ≡ None
gives_nothing e kind IsOf children None never gives = refl
gives_nothing e kind IsOf children (Some x) never (GivesOne.some child s is of) = absurd (never (found_among ((form_at e).many ++ (form_at e).once) child kind is).0)

-- no edits of attributes are formed
no_edits_formed : (edits : List (List ℕ × AttEdit)) → edits ≡ [] → AreFormedEdits edits
no_edits_formed edits none = subst AreFormedEdits (sym none) (record { rising = refl; each = λ ident made e. cc })

-- whether a declaration adds or replaces
abbrev is_new : Mode → Bool
is_new mode.Add = true
is_new mode.Replace = true
is_new m = false

-- the `mode` of one that does is neither of these words
mode_told : (o : Option (List ℕ)) → IsTrue (is_new (mode_named (unwrap_or o (codes "add")))) → is_given_among (codes "change" ∷ codes "delete" ∷ []) o ≡ false
mode_told None new = refl
mode_told (Some word) new = by (is_same word (codes "delete")) (is_same word (codes "change")) new
  where
    by : (deletes changes : Bool)
        → IsTrue (is_new (if deletes then mode.Delete else if changes then mode.Change else if is_same word (codes "replace") then mode.Replace else mode.Add))
        → (changes || (deletes || false)) ≡ false
    by true changes h = cc
    by false true h = cc
    by false false h = refl

-- an element that does gives a namespace
namespace_some : (m : Mode) (ns : List ℕ) (item : Tree) → IsTrue (is_new m) → IsSome (namespace_by m ns item)
namespace_some mode.Add ns item new = refl
namespace_some mode.Replace ns item new = refl
namespace_some m ns item new = cc

-- and a class its type
type_some : (binds : List Bind) (item : Tree) → ((rule : ℕ) → OwnFault (form_at element.ClassSpec) binds item rule → ⊥) → IsTrue (is_new (mode_given item)) → IsSome (type_given kind.Class item)
type_some binds item sound new =
    by_value (λ o. IsSome (option_map (λ word. is_same word (codes "atts")) o)) (given item (codes "type"))
    (λ is. absurd (sound 1 (OwnFault.demand _ (stands_first _ _) (DemandFault.missing is (mode_told (given item (codes "mode")) new))))) (λ word is. refl)

-- and a datatype its content
content_some : {X : Type 0} (binds : List Bind) (item : Tree) (IsOf : Tree → X → Type 0) (o : Option X) → ((rule : ℕ) → OwnFault (form_at element.DataSpec) binds item rule → ⊥)
    → IsTrue (is_new (mode_given item)) → GivesOne element.DataSpec element.DataContent IsOf (children_of item) o → IsSome o
content_some binds item IsOf (Some x) sound new gives = refl
content_some binds item IsOf None sound new (GivesOne.none h) =
    let none : has_named element.DataContent item ≡ false = false_from_ne_true _ (λ some.
    let c = (any_stands (is_one_of (codes "content" ∷ [])) (children_of item)).0 some in h c.0 c.1 (is_kind element.DataSpec element.DataContent (codes "content") c.0 refl c.2)) in
    absurd (sound 3 (OwnFault.demand _ (stands_first _ _) (DemandFault.no_child none (mode_told (given item (codes "mode")) new))))

-- what adds or replaces is whole where it stands alone
whole_in : (m : Mode) (spec : Spec) → (IsTrue (is_new m) → StandsAlone spec.key.kind spec) → IsWholeIn m spec
whole_in mode.Add spec alone = alone refl
whole_in mode.Replace spec alone = alone refl
whole_in m spec alone = tt

-- what stands in a formed element is formed, and the declarations around it may be so, where those around the element may
under_formed : {outer : List Bind} {t : Tree} {f : Found} → StandsUnder outer t f → AreBound outer → IsFormedSomewhere t → AreBound f.around × IsFormedSomewhere f.element
under_formed StandsUnder.itself bound formed = (bound, formed)
under_formed {outer = outer} {t = t} (StandsUnder.inside child s deep) bound formed = under_formed deep (within_bound outer t bound formed.2) (child_formed formed.2 child s)

-- the namespace of an element in documents
legal_namespace : (ns : List ℕ) (item : Tree) → IsLegal ns → IsFormedTag item → IsLegal (unwrap_or (given item (codes "ns")) ns)
legal_namespace ns item legal g = by_value (λ o. IsLegal (unwrap_or o ns)) (given item (codes "ns")) (λ _. legal) (λ value is. legal_given item (codes "ns") value g is)

-- the one that its declaration gives
legal_in : (m : Mode) (ns : List ℕ) (item : Tree) → IsLegal ns → IsFormedTag item → IfSome (namespace_by m ns item) IsLegal
legal_in mode.Add ns item legal g = legal_namespace ns item legal g
legal_in mode.Replace ns item legal g = legal_namespace ns item legal g
legal_in m ns item legal g = by_value (λ o. IfSome o IsLegal) (given item (codes "ns")) (λ _. tt) (λ value is. legal_given item (codes "ns") value g is)

-- the namespace of elements that give none themselves
legal_around : (schemas : List Found) → ((f : Found) → StandsIn schemas f → IsFormedSomewhere f.element) → IsLegal (namespace_of schemas)
legal_around [] formed = ascii.ascii_legal tei_namespace refl
legal_around (schema ∷ others) formed = legal_namespace tei_namespace schema.element (ascii.ascii_legal tei_namespace refl) (tag_formed (formed schema (stands_first schema others)).2)

-- the first `schemaSpec` breaks nothing by its attributes
abbrev FirstKept : List Found → Type 0
FirstKept [] = Unit {0}
FirstKept (schema ∷ others) = (a : AttributeForm) → StandsIn (form_at element.SchemaSpec).attributes a → IsKept a schema.element

-- so the ident of a file is a name
ident_named : (schemas : List Found) (ident : List ℕ) → FirstKept schemas → ident_in schemas ≡ Some ident → IsNCName ident
ident_named [] ident kept is = subst IsNCName (same_Some _ _ is) (ascii.is_name (codes "bare") refl)
ident_named (schema ∷ others) ident kept is = sure_name ident (kept_suits (needed (codes "ident") name) schema.element ident (kept _ (stands_first _ _)) refl is)

-- and so are its start words
start_all_named : (schemas : List Found) → FirstKept schemas → AreNames (start_in schemas)
start_all_named [] kept = record { some = λ none. cc; named = All-cons IsNCName (codes "TEI") [] (ascii.is_name (codes "TEI") refl) (All-nil IsNCName) }
start_all_named (schema ∷ others) kept = start_named schema.element (kept _ (stands_later _ _ _ (stands_first _ _)))

module _ (t : Tree) (doc : OddDoc) (first end : ℕ) (is_formed : IsFormed first end t) (d : DeclaresWhole t doc) where
  -- each `schemaSpec` is formed
  schema_formed : (f : Found) → StandsIn d.schemas f → IsFormedSomewhere f.element
  schema_formed f s = (under_formed (found_under schema_names false [] t d.schemas d.found f s) (All-nil IsBinding, All-nil (λ (b : Bind). IsLegal b.ns)) (first, end, is_formed)).1

  -- the `schemaSpec` breaks nothing by its attributes
  schema_kept : (schemas : List Found) → d.schemas ≡ schemas → FirstKept schemas
  schema_kept [] is = tt
  schema_kept (schema ∷ others) is = λ a s rule f.
      d.unoffended _ rule (record {
        schemas = schema ∷ others;
        found = subst (Finds schema_names false [] t) is d.found;
        offends = Offends.schema (SchemasOffend.itself (OwnFault.attribute a s f) refl);
      })

  module _ (item : Found) (stands : IsItemIn t d.schemas item) where
    abbrev tree : Tree
    tree = item.element

    abbrev inside : List Bind
    inside = within item.around tree

    -- an item is formed, and the declarations in it are bound
    item_under_formed : AreBound item.around × IsFormedSomewhere tree
    item_under_formed = under_formed (item_under t d.schemas d.found item stands) (All-nil IsBinding, All-nil (λ (b : Bind). IsLegal b.ns)) (first, end, is_formed)

    item_formed : IsFormedSomewhere tree
    item_formed = item_under_formed.1

    inside_bound : AreBound inside
    inside_bound = within_bound item.around tree item_under_formed.0 item_formed.2

    module _ (e : Element) (is : IsItem e tree) where
      -- an item breaks nothing at any depth
      item_sound : (rule : ℕ) → DeepFault e 60 item.around tree rule → ⊥
      item_sound rule f =
          d.unoffended _ rule (record { schemas = d.schemas; found = d.found; offends = Offends.item (ItemsOffend.alone item stands (ItemFault.deep e is f) refl) })

      own_sound : (rule : ℕ) → OwnFault (form_at e) inside tree rule → ⊥
      own_sound rule f = item_sound rule (DeepFault.itself (FormFault.own f))

      item_kept : (a : AttributeForm) → StandsIn (form_at e).attributes a → IsKept a tree
      item_kept a s rule f = own_sound rule (OwnFault.attribute a s f)

      -- nor does a child, since an item is no level
      child_sound : (kind : Element) (child : Tree) → StandsIn (children_of tree) child → IsChild e kind child → (rule : ℕ) → DeepFault kind 60 inside child rule → ⊥
      child_sound kind child s of rule f =
          let never : is_level (form_at e) tree ≡ false = each_item (λ k. is_level (form_at k) tree ≡ false) refl refl refl refl refl refl refl refl refl refl tree e is in
          item_sound rule (DeepFault.inside kind child s of (subst (λ b. DeepFault kind (left_inside b 60) inside child rule) (sym never) f))

      -- what is made of a child that breaks nothing
      given_formed : {X : Type 0} (kind : Element) (IsOf : Tree → X → Type 0) (P : X → Type 0) (o : Option X)
          → ((child : Tree) (x : X) → IsFormedSomewhere child → ((rule : ℕ) → DeepFault kind 60 inside child rule → ⊥) → IsOf child x → P x)
          → GivesOne e kind IsOf (children_of tree) o → IfSome o P
      given_formed kind IsOf P None h gives = tt
      given_formed kind IsOf P (Some x) h (GivesOne.some child s of made) = h child x (child_formed item_formed.2 child s) (child_sound kind child s of) made

      -- the edits of attributes that an element or a class gives
      atts_formed : (edits : List (List ℕ × AttEdit)) → kind_named e (tei (codes "attList")) ≡ Some element.AttList → AreEditsGiven (first_named (codes "attList") tree) edits → AreFormedEdits edits
      atts_formed edits known =
          by_child (codes "attList") tree (λ o. AreEditsGiven o edits → AreFormedEdits edits) (no_edits_formed edits)
          (λ list s of. attlist_formed list edits (λ rule f. child_sound element.AttList list s (is_kind e element.AttList (codes "attList") list known of) rule (fault_anywhere inside refl f))
          (child_formed item_formed.2 list s).2)

    -- the name in documents that an element gives
    alt_named : IsItem element.ElementSpec tree → IfSome (alt_given tree) IsNCName
    alt_named is =
        by_child (codes "altIdent") tree (λ o. IfSome (option_map collapsed_in o) IsNCName) tt
        (λ alt s of. sure_name (collapsed_in alt) (λ no.
        child_sound element.ElementSpec is element.AltIdent alt s (is_kind element.ElementSpec element.AltIdent (codes "altIdent") alt refl of) 1
        (DeepFault.itself (FormFault.own (OwnFault.demand (own_text name) (stands_first _ _) (DemandFault.not_of_kind no))))))

    spec_formed : (spec : Spec) → IsReadAs (namespace_of d.schemas) item spec → IsFormedSpec spec
    spec_formed spec r =
        let e = r.is_spec.element in
        let is = r.is_spec.is_item in
        let ns = namespace_of d.schemas in
        let m = mode_given tree in
        let children = children_of tree in
        let each : (P : Element → Kind → Type 0) → P element.ElementSpec kind.Element → P element.ClassSpec kind.Class → P element.MacroSpec kind.Macro → P element.DataSpec kind.Datatype
        → P e spec.key.kind =
        λ P es cs ms ds. each_declared P es cs ms ds e spec.key.kind r.is_spec.of_kind in
        let content : GivesOne e element.Content (IsContentOf inside) children spec.content → IfSome spec.content IsFormedContent =
        given_formed e is element.Content (IsContentOf inside) IsFormedContent spec.content
        (λ child c f sound made. subst IsFormedContent (sym made) (content_formed inside child inside_bound f.2 sound)) in
        let of_data : GivesOne e element.DataContent (IsContentOf inside) children spec.content → IfSome spec.content (IsFormedContentOf kind.Datatype) =
        given_formed e is element.DataContent (IsContentOf inside) (IsFormedContentOf kind.Datatype) spec.content
        (λ child c f sound made. subst (IsFormedContentOf kind.Datatype) (sym made) (data_content_formed inside child f.2 sound)) in
        let legal = legal_in m ns tree (legal_around d.schemas schema_formed) (tag_formed item_formed.2) in
        let no_edits : spec.atts ≡ [] → AreFormedEdits spec.atts = no_edits_formed spec.atts in
        record {
          named = r.is_spec.named;
          of_module = subst IsModule (sym r.of_module)
              (module_named tree (item_kept e is (optional (codes "module") name)
              (each (λ x k. StandsIn (form_at x).attributes (optional (codes "module") name)) (stands_later _ _ _ (stands_first _ _)) (stands_later _ _ _ (stands_first _ _))
              (stands_later _ _ _ (stands_first _ _)) (stands_later _ _ _ (stands_first _ _)))));
          ns = subst (λ o. IfSome o IsLegal) (sym r.ns) (each (λ x k. IfSome (namespace_with k m ns tree) IsLegal) legal tt tt tt);
          alt = subst (λ o. IfSome o IsNCName) (sym r.alt) (each (λ x k. IsItem x tree → IfSome (alt_declared k tree) IsNCName) alt_named (λ _. tt) (λ _. tt) (λ _. tt) is);
          classes = given_formed e is element.Classes IsMembershipOf IsFormedMembership spec.classes
              (λ child c f sound made. membership_formed child c (λ rule g. sound rule (fault_anywhere inside refl g)) made) r.children.classes;
          atts = each (λ x k. IsItem x tree → AreAttsDeclared k tree spec.atts → AreFormedEdits spec.atts) (λ h. atts_formed element.ElementSpec h spec.atts refl)
              (λ h. atts_formed element.ClassSpec h spec.atts refl) (λ h. no_edits) (λ h. no_edits) is r.atts;
          content = each (λ x k. GivesOne e (content_of x) (IsContentOf inside) children spec.content → IfSome spec.content (IsFormedContentOf k)) content content content of_data r.children.content;
          fields = each (λ x k. GivesOne x (content_of x) (IsContentOf inside) children spec.content → GivesOne x element.Classes IsMembershipOf children spec.classes
              → spec.ns ≡ namespace_with k m ns tree → spec.alt ≡ alt_declared k tree → spec.gives ≡ type_given k tree → AreAttsDeclared k tree spec.atts → HasFieldsOf k spec)
              (λ c m ns alt gives atts. gives)
              (λ c m ns alt gives atts. (
                ns,
                alt,
                gives_nothing element.ClassSpec element.Content _ _ _
                    (λ t. ⊎_elim (λ one. (let no : element.Content ≡ element.Classes = one in cc)) (λ later. (let no : element.Content ≡ element.AttList = only_item _ _ later in cc)) (first_or_later _ _ _ t)) c,
              ))
              (λ c m ns alt gives atts. record {
                no_ns = ns;
                no_alt = alt;
                no_type = gives;
                no_classes = gives_nothing element.MacroSpec element.Classes _ _ _ (λ t. (let no : element.Classes ≡ element.Content = only_item _ _ t in cc)) m;
                no_atts = atts;
              })
              (λ c m ns alt gives atts. record {
                no_ns = ns;
                no_alt = alt;
                no_type = gives;
                no_classes = gives_nothing element.DataSpec element.Classes _ _ _ (λ t. (let no : element.Classes ≡ element.DataContent = only_item _ _ t in cc)) m;
                no_atts = atts;
              })
              r.children.content r.children.classes r.ns r.alt r.gives r.atts;
          whole = subst (λ m. IsWholeIn m spec) (sym r.of_mode) (whole_in m spec (λ new.
              each (λ x k. ((rule : ℕ) → OwnFault (form_at x) inside tree rule → ⊥) → spec.ns ≡ namespace_with k m ns tree → spec.gives ≡ type_given k tree
              → GivesOne x (content_of x) (IsContentOf inside) children spec.content → StandsAlone k spec)
              (λ sound ns gives c. ap is_some ns ∙ namespace_some m (namespace_of d.schemas) tree new)
              (λ sound ns gives c. ap is_some gives ∙ type_some inside tree sound new)
              (λ sound ns gives c. tt) (λ sound ns gives c. content_some inside tree (IsContentOf inside) spec.content sound new c) (own_sound e is) r.ns r.gives r.children.content));
        }

    entry_formed : (e : Entry) → IsEntryOf (namespace_of d.schemas) item e → IsFormedEntry e
    entry_formed _ (IsEntryOf.«module» {key = word} is keyed) =
        let kept = item_kept element.ModuleRef is in
        (key_named tree word (kept key (stands_first _ _)) keyed, pick_formed tree (kept include (stands_later _ _ _ (stands_first _ _))) (kept except (stands_later _ _ _ (stands_later _ _ _ (stands_first _ _)))))
    entry_formed _ (IsEntryOf.take {of_kind = k} {ident = word} e is takes keyed) = key_named tree word (item_kept e is key (takes_keyed e k takes)) keyed
    entry_formed _ (IsEntryOf.spec {spec = spec} r) = spec_formed spec r

  -- what the tree declares
  doc_formed : IsFormedDoc doc
  doc_formed =
      let kept = schema_kept d.schemas refl in
      record {
        ident = ident_named d.schemas doc.ident kept d.ident;
        start = start_formed (start_in d.schemas) doc.start (start_all_named d.schemas kept) d.start;
        entries = λ e s. (let from = d.entries.none_else e s in entry_formed from.0 from.1 e from.2);
        once = keys_once t doc d;
      }

-- what a formed file declares is formed
pub formed_doc : (first end : ℕ) (t : Tree) (doc : OddDoc) → IsFormed first end t → DeclaresWhole t doc → IsFormedDoc doc
formed_doc first end t doc is_formed d = doc_formed t doc first end is_formed d
