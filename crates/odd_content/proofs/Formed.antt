-- What a formed tree that breaks no rule gives as a content model is formed.
use Rattle.std.proofs.Common.{◌≡◌, ◌≢◌, ◌-◌, ℕ, suc, List, [], ◌∷◌, ◌&&◌, true, false, Option, Some, None, All, codes, length, get_or, refl, sym, ap, subst, ◌∙◌, arith, ⊎_elim, filter}
use Rattle.std.specs.List.{after_first, before_first, list_any}
use Rattle.std.specs.Option.{IfSome}
use Rattle.std.specs.Prelude.{is_some, nat_le, unwrap_or}
use Rattle.std.specs.Cmp.Lexicographic.{same_text}
use Rattle.std.proofs.lemmas.Bool.{cases_Bool, false≢true, le-leb}
use Rattle.std.proofs.lemmas.List.Elements.{All-append, All-cons, All-contains, All-filter, All-head, All-nil, All-tail, filter_passes}
use Rattle.std.proofs.lemmas.List.Sums.{length-filter}
use Rattle.std.proofs.lemmas.Option.{same_Some}
use Rattle.std.proofs.lemmas.Str.{chars-nil}
use Rattle.odd_text.specs.declared.name.Bind.{Bind}
use Rattle.odd_text.specs.declared.name.Name.{Name}
use Rattle.odd_tokens.proofs.Ascii.{ascii_legal}
use Rattle.odd_tokens.specs.Characters.{IsLegal, IsNCName, is_ncname, is_space}
use Rattle.odd_text.specs.Same.{is_same}
use Rattle.odd_text.proofs.InList.{contained, stands_first, stands_later}
use Rattle.odd_tree.proofs.LastBound.{last_bound_none, last_bound_some}
use Rattle.odd_text.specs.Standing.{StandsIn}
use Rattle.odd_tree.specs.Elements.{children_of, given, within}
use Rattle.odd_tree.specs.Formed.{IsFormed, IsFormedTag}
use Rattle.odd_tree.specs.Names.{IsBinding, in_force, last_bound, xml_namespace, xmlns_namespace}
use Rattle.odd_tree.specs.declared.tree.Tree.{Tree, out-Tree}
use Rattle.rng_types.specs.Bounds.{IsFormedBounds}
use Rattle.rng_types.specs.declared.item.Item.{Item}
use Rattle.odd_forms.proofs.Colon.{and_no, name_decides, name_parts, no_and, prefixed_read}
use Rattle.rng_types.proofs.Spaced.{words_legal}
use Rattle.odd_forms.specs.Deep.{DeepFault, is_level, left_inside}
use Rattle.odd_forms.specs.Excepting.{excepted_of, is_colon, is_name, named_in}
use Rattle.odd_forms.specs.Faults.{AttributeFault}
use Rattle.odd_forms.specs.Form.{AttributeForm, any_names}
use Rattle.odd_forms.specs.Table.{form_at, key, optional}
use Rattle.odd_forms.specs.Words.{begun_with, is_filled, pieces_of, words_given, words_of}
use Rattle.odd_forms.specs.declared.element.Element.{Element}
use Rattle.odd_forms.specs.declared.element.Element.TheVariants as kind
use Rattle.odd_forms.specs.declared.excepted.Excepted.TheVariants as excepted
use Rattle.odd_content.proofs.Conditions.{condition_sets}
use Rattle.odd_content.proofs.EachPart.{AreParts, IsPart, parts_given}
use Rattle.odd_content.specs.FormedData.{IsFormedData, IsFormedList}
use Rattle.odd_content.specs.Values.{list_given}
use Rattle.odd_content.specs.Items.{item_given}
use Rattle.odd_content.proofs.FormedData.{all_valued, data_formed, list_formed}
use Rattle.odd_content.proofs.FormedTrees.{IsFormedSomewhere, child_formed, tag_formed}
use Rattle.odd_content.proofs.Unbroken.{IsUnbroken, attribute_kept, bounds_formed, by_text, child_kept, decided, each_item, legal_given, suited}
use Rattle.odd_content.specs.Breaking.{ContentFault}
use Rattle.odd_content.specs.Condition.{condition_of}
use Rattle.odd_content.specs.Formed.{AreBound, AreFormedWithin, IsExceptedName, IsExceptedNamespace, IsFormedCondition, IsFormedContent, IsFormedPick, IsFormedWithin, IsNamespace, once}
use Rattle.odd_content.specs.Giving.{content_of, joined_parts, key_in, part_named, parts_in, pick_given, pick_of, value_content}
use Rattle.odd_content.specs.declared.content.Content.{Content, Row_of-Content, end_of-Content, more_of-Content, items-the_row-Content, items_hidden-the_row-Content-0}
use Rattle.odd_content.specs.declared.content.Content.TheBlock.{hidden-the_row-Content-0}

abbrev pub include : AttributeForm
include = optional (codes "include") any_names

abbrev pub except : AttributeForm
except = optional (codes "except") any_names

-- the ident that a reference gives is a name
key_named : (t : Tree) → IsUnbroken (AttributeFault key t) → IsNCName (key_in (out-Tree t).attrs)
key_named t unbroken =
    by_text (given t (codes "key")) (λ o. IsNCName (unwrap_or o [])) (λ e. absurd (unbroken 1 (AttributeFault.absent refl e)))
    (λ value e. decided (is_name value) (name_decides value) (suited key t value refl e unbroken))

-- and so is each word of an attribute of names
words_named : (t : Tree) (local : List ℕ) → IsUnbroken (AttributeFault (optional local any_names) t) → All IsNCName (words_given t local)
words_named t local unbroken =
    by_text (given t local) (λ o. All IsNCName (words_of (unwrap_or o []))) (λ e. All-nil IsNCName)
    (λ value e k d l. decided (is_name (get_or (words_of value) k d)) (name_decides (get_or (words_of value) k d))
    (λ wrong. suited (optional local any_names) t value refl e unbroken (λ all. wrong (all k d l))))

-- words of `include`, or else of `except`, pick
words_picked : (words excepted : List (List ℕ)) → All IsNCName words → All IsNCName excepted → IsFormedPick (pick_of words excepted)
words_picked [] [] named apart = tt
words_picked [] (word ∷ words) named apart = (λ e. cc, apart)
words_picked (word ∷ words) excepted named apart = (λ e. cc, named)

-- what `include` and `except` pick that break nothing is formed
pub pick_formed : (t : Tree) → ((rule : ℕ) → AttributeFault include t rule → ⊥) → ((rule : ℕ) → AttributeFault except t rule → ⊥) → IsFormedPick (pick_given t)
pick_formed t included excepted = words_picked _ _ (words_named t (codes "include") included) (words_named t (codes "except") excepted)

-- no byte is white space
abbrev IsUnspaced : List ℕ → Type 0
IsUnspaced piece = list_any is_space piece ≡ false

-- pieces with a character before the first that is no white space
begun_unspaced : (c : ℕ) (pieces : List (List ℕ)) → is_space c ≡ false → All IsUnspaced pieces → All IsUnspaced (begun_with c pieces)
begun_unspaced c [] e h = All-cons IsUnspaced (c ∷ []) [] (rw e refl) h
begun_unspaced c (piece ∷ pieces) e h = All-cons IsUnspaced (c ∷ piece) pieces (rw e (All-head IsUnspaced piece pieces h)) (All-tail IsUnspaced piece pieces h)

-- the pieces between white space have none
pieces_unspaced : (value : List ℕ) → All IsUnspaced (pieces_of value)
pieces_unspaced [] = All-cons IsUnspaced [] [] refl (All-nil IsUnspaced)
pieces_unspaced (c ∷ cs) =
    ⊎_elim (λ e. rw e (All-cons IsUnspaced [] (pieces_of cs) refl (pieces_unspaced cs))) (λ e. rw e (begun_unspaced c (pieces_of cs) e (pieces_unspaced cs))) (cases_Bool (is_space c))

-- each word of a formed element may be a namespace
word_formed : (t : Tree) (local word : List ℕ) → IsFormedTag t → StandsIn (words_given t local) word → IsNamespace word
word_formed t local word f s =
    let value = unwrap_or (given t local) [] in
    let legal : IsLegal value = by_text (given t local) (λ o. IsLegal (unwrap_or o [])) (λ e. ([], refl, refl)) (λ v e. legal_given t local v f e) in
    let inside = contained (words_of value) word s in
    record {
      legal = All-contains IsLegal (words_of value) word (words_legal value legal) inside;
      filled = λ e. false≢true (sym (ap is_filled e) ∙ All-contains (λ w. is_filled w ≡ true) (words_of value) word (filter_passes is_filled (pieces_of value)) inside);
      unspaced = All-contains IsUnspaced (words_of value) word (All-filter is_filled IsUnspaced (pieces_of value) (pieces_unspaced value)) inside;
    }

-- a prefixed name is no namespace
never_space : (o : Option (List ℕ)) (local space : List ℕ) → named_in o local ≡ excepted.Space space → ⊥
never_space None local space e = cc
never_space (Some ns) local space e = cc

-- a namespace that `except` gives
space_formed : (binds : List Bind) (word space : List ℕ) → IsNamespace word → excepted_of binds word ≡ excepted.Space space → IsExceptedNamespace space
space_formed binds word space formed read =
    ⊎_elim (λ named. absurd (never_space (in_force binds (before_first is_colon word)) (after_first is_colon word) space (rw named at read)))
    (λ other. (let same : word ≡ space = (let e = rw other at read in cc) in
    subst IsExceptedNamespace same
    (record { is_namespace = formed; unprefixed = λ prefix local p. never_space (in_force binds prefix) local space (sym (prefixed_read binds word prefix local p) ∙ read) })))
    (cases_Bool (is_name (before_first is_colon word) && is_name (after_first is_colon word)))

-- what holds of each namespace that is bound to the prefix holds of the last
last_one : (P : List ℕ → Type 0) (binds : List Bind) (prefix ns : List ℕ) → All (λ (b : Bind). b.prefix ≡ prefix → P b.ns) binds → last_bound binds prefix ≡ Some ns → P ns
last_one P [] prefix ns each e = cc
last_one P (b ∷ bs) prefix ns each e =
    by_text (last_bound bs prefix) (λ o. P ns)
    (λ none. (let only = sym (last_bound_none (b ∷ []) bs prefix none) ∙ e in
    ⊎_elim (λ same. subst P (same_Some b.ns ns (rw same at only)) (All-head (λ (x : Bind). x.prefix ≡ prefix → P x.ns) b bs each (same_text b.prefix prefix (sym same))))
    (λ other. (let never = rw other at only in cc)) (cases_Bool (is_same b.prefix prefix))))
    (λ x is. last_one P bs prefix ns (All-tail (λ (y : Bind). y.prefix ≡ prefix → P y.ns) b bs each) (is ∙ sym (last_bound_some (b ∷ []) bs prefix x is) ∙ e))

-- a namespace that is in force for a prefix
in_force_formed : (binds : List Bind) (prefix ns : List ℕ) → AreBound binds → prefix ≢ [] → in_force binds prefix ≡ Some ns → IsLegal ns × (ns ≢ []) × (ns ≢ xmlns_namespace)
in_force_formed binds prefix ns bound some e =
    let IsTo : List ℕ → Type 0 = λ ns. IsLegal ns × (ns ≢ []) × (ns ≢ xmlns_namespace) in
    ⊎_elim (λ xml. subst IsTo (same_Some xml_namespace ns (rw xml at e))
    (ascii_legal xml_namespace refl, λ n. false≢true (ap (λ x. is_same x []) n), λ n. false≢true (ap (λ x. is_same x xmlns_namespace) n)))
    (λ other. last_one IsTo binds prefix ns (λ k d l same. (bound.1 k d l, (bound.0 k d l).bound (λ none. some (sym same ∙ none)), (bound.0 k d l).reserved)) (rw other at e))
    (cases_Bool (is_same prefix (codes "xml")))

-- a name that `except` gives
name_formed : (binds : List Bind) (word : List ℕ) (name : Name) → AreBound binds → excepted_of binds word ≡ excepted.Name name → IsExceptedName name
name_formed binds word name bound read =
    let prefixed : before_first is_colon word ≢ [] = λ none. (let other = no_and _ (is_name (after_first is_colon word)) (ap is_name none ∙ and_no _ _ (ap is_ncname chars-nil)) in let never = rw other at read in cc) in
    let parts = name_parts binds word name read in
    let to = in_force_formed binds (before_first is_colon word) name.ns bound prefixed parts.0 in
    record { named = parts.1; legal = to.0; filled = to.1; unreserved = to.2 }

-- the condition of a formed `anyElement`
condition_formed : (binds : List Bind) (t : Tree) → AreBound binds → IsFormedTag t → IsFormedCondition (condition_of binds (words_given t (codes "require")) (words_given t (codes "except")))
condition_formed binds t bound f =
    let is = condition_sets binds (words_given t (codes "require")) (words_given t (codes "except")) in
    record {
      require_rise = is.require.rising;
      require = each_item IsNamespace _ (λ word s. word_formed t (codes "require") word f (is.require.none_else word s));
      spaces_rise = is.spaces.rising;
      spaces = each_item IsExceptedNamespace _ (λ space s. (let from = is.spaces.none_else space s in space_formed binds from.0 space (word_formed t (codes "except") from.0 f from.1) from.2));
      names_rise = is.names.rising;
      names = each_item IsExceptedName _ (λ name s. (let from = is.names.none_else name s in name_formed binds from.0 name bound from.2));
    }

-- the declarations in force in a formed element may be so, where those around it may
pub within_bound : (around : List Bind) (t : Tree) {first end : ℕ} → AreBound around → IsFormed first end t → AreBound (within around t)
within_bound around t bound f =
    (All-append IsBinding around (out-Tree t).binds bound.0 (tag_formed f).bound, All-append (λ (b : Bind). IsLegal b.ns) around (out-Tree t).binds bound.1 (tag_formed f).bound_to)

-- an item that is said and formed
value_formed : (left : ℕ) (o : Option Item) → IfSome o IsFormedData → IsFormedWithin left (value_content o)
value_formed left None formed = tt
value_formed left (Some item) formed = formed

-- and a list that breaks nothing
pub values_formed : (t : Tree) {left : ℕ} {around : List Bind} → IsFormedSomewhere t → IsUnbroken (DeepFault kind.ValList left around t) → IsFormedList (list_given t)
values_formed t formed unbroken = list_formed t (all_valued unbroken formed.2 kind.ValItem (λ child named. rw named refl) ([], _, refl))

-- parts that are formed
rows_formed : {n : _} (left : ℕ) (row : Row_of-Content n) → All (IsFormedWithin left) (items-the_row-Content n row) → AreFormedWithin left row
rows_formed left end_of-Content all = tt
rows_formed left (more_of-Content part row) all = (All-head (IsFormedWithin left) part _ all, rows_formed left row (All-tail (IsFormedWithin left) part _ all))

pub parts_listed : (left : ℕ) (parts : List Content) → All (IsFormedWithin left) parts → AreFormedWithin left (hidden-the_row-Content-0 parts)
parts_listed left parts all = rows_formed left (hidden-the_row-Content-0 parts) (subst (All (IsFormedWithin left)) (sym (items_hidden-the_row-Content-0 parts)) all)

-- the element is formed, and breaks nothing as the part that it is, where so many levels may still open
abbrev IsFormedPart : ℕ → List Bind → Tree → Type 0
IsFormedPart left around t = IsFormedSomewhere t × ((e : Element) → part_named (out-Tree t).name ≡ Some e → IsUnbroken (DeepFault e left around t))

mutual
  -- what such a part gives is formed
  part_formed : (left : ℕ) {around : List Bind} {t : Tree} {c : Content} → IsPart around t c → AreBound around → IsFormedPart left around t → IsFormedWithin left c
  part_formed left {t = t} (IsPart.part kind.ElementRef is are) bound (formed, unbroken) =
      let u = unbroken kind.ElementRef is in
      (key_named t (attribute_kept u key ([], _, refl)), bounds_formed u (_ ∷ [], _, refl) (_ ∷ _ ∷ [], _, refl) ([], _, refl))
  part_formed left {t = t} (IsPart.part kind.ClassRef is are) bound (formed, unbroken) =
      let u = unbroken kind.ClassRef is in
      let pick = pick_formed t (attribute_kept u include (_ ∷ _ ∷ [], _, refl)) (attribute_kept u except (_ ∷ _ ∷ _ ∷ [], _, refl)) in
      (key_named t (attribute_kept u key ([], _, refl)), pick, bounds_formed u (_ ∷ _ ∷ _ ∷ _ ∷ [], _, refl) (_ ∷ _ ∷ _ ∷ _ ∷ _ ∷ [], _, refl) ([], _, refl))
  part_formed left {t = t} (IsPart.part kind.MacroRef is are) bound (formed, unbroken) =
      let u = unbroken kind.MacroRef is in
      (key_named t (attribute_kept u key ([], _, refl)), bounds_formed u (_ ∷ [], _, refl) (_ ∷ _ ∷ [], _, refl) ([], _, refl))
  part_formed left {around = around} {t = t} (IsPart.part kind.AnyElement is are) bound (formed, unbroken) =
      (condition_formed (within around t) t (within_bound around t bound formed.2) (tag_formed formed.2), bounds_formed (unbroken kind.AnyElement is) ([], _, refl) (_ ∷ [], _, refl) ([], _, refl))
  part_formed left {around = around} {t = t} (IsPart.part {parts = parts} kind.Sequence is are) bound (formed, unbroken) =
      let u = unbroken kind.Sequence is in
      let closed : left ≡ 0 → ⊥ = λ none. u 2 (DeepFault.deep refl none) in
      let inner = parts_formed (left - 1) are (within_bound around t bound formed.2) (λ child s. (child_formed formed.2 child s, child_kept u child s)) in
      (omega arith, parts_listed (left - 1) parts inner, bounds_formed u ([], _, refl) (_ ∷ [], _, refl) ([], _, refl))
  part_formed left {around = around} {t = t} (IsPart.part {parts = parts} kind.Alternate is are) bound (formed, unbroken) =
      let u = unbroken kind.Alternate is in
      let closed : left ≡ 0 → ⊥ = λ none. u 2 (DeepFault.deep refl none) in
      let inner = parts_formed (left - 1) are (within_bound around t bound formed.2) (λ child s. (child_formed formed.2 child s, child_kept u child s)) in
      (omega arith, parts_listed (left - 1) parts inner, bounds_formed u ([], _, refl) (_ ∷ [], _, refl) ([], _, refl))
  part_formed left {t = t} (IsPart.part kind.DataRef is are) bound (formed, unbroken) =
      value_formed left (item_given t) (data_formed (unbroken kind.DataRef is) formed.2 ([], _, refl) (_ ∷ _ ∷ _ ∷ _ ∷ _ ∷ _ ∷ [], _, refl))
  part_formed left {t = t} (IsPart.part kind.ValList is are) bound (formed, unbroken) =
      values_formed t formed (unbroken kind.ValList is)
  part_formed left (IsPart.part other is are) bound formed = tt

  -- and so is what several give
  parts_formed : (left : ℕ) {around : List Bind} {ts : List Tree} {cs : List Content} → AreParts around ts cs → AreBound around → ((t : Tree) → StandsIn ts t → IsFormedPart left around t)
      → All (IsFormedWithin left) cs
  parts_formed left AreParts.nothing bound formed = All-nil (IsFormedWithin left)
  parts_formed left (AreParts.other {t = t} {ts = ts} none later) bound formed = parts_formed left later bound (λ u s. formed u (stands_later t u ts s))
  parts_formed left (AreParts.more {t = t} {ts = ts} {c = c} {cs = cs} one later) bound formed =
      All-cons (IsFormedWithin left) c cs (part_formed left one bound (formed t (stands_first t ts))) (parts_formed left later bound (λ u s. formed u (stands_later t u ts s)))

-- there are as many as children that may stand there
pub parts_counted : {around : List Bind} {ts : List Tree} {cs : List Content} → AreParts around ts cs → length (filter (λ t. is_some (part_named (out-Tree t).name)) ts) ≡ length cs
parts_counted AreParts.nothing = refl
parts_counted (AreParts.other none later) = rw none (parts_counted later)
parts_counted (AreParts.more (IsPart.part e is are) later) = rw is (ap suc (parts_counted later))

-- bounds that are not given are formed
pub once_formed : IsFormedBounds once
once_formed =
    let is = λ (n : ℕ) (e : Some 1 ≡ Some n). same_Some 1 n e in
    record { least = omega arith; greatest = λ n e. omega (arith, is n e); ordered = λ n e. omega (arith, is n e) }

-- what they give together is formed
joined_formed : (parts : List Content) → All (IsFormedWithin (left_inside (nat_le 2 (length parts)) 60)) parts → IsFormedContent (joined_parts parts)
joined_formed [] all = tt
joined_formed (part ∷ []) all = All-head (IsFormedWithin 60) part [] all
joined_formed (part ∷ next ∷ parts) all =
    let several : nat_le 2 (suc (suc (length parts))) ≡ true = le-leb 2 (suc (suc (length parts))) (omega arith) in
    (omega arith, parts_listed 59 (part ∷ next ∷ parts) (rw several at all), once_formed)

-- the content model that a `content` says which breaks nothing is formed
pub content_formed : (around : List Bind) (t : Tree) {first end : ℕ} → AreBound around → IsFormed first end t → ((rule : ℕ) → ContentFault around t rule → ⊥) → IsFormedContent (content_of around t)
content_formed around t bound formed unbroken =
    let are = parts_given around t in
    let counted = sym (length-filter (λ child. is_some (part_named (out-Tree child).name)) (children_of t)) ∙ parts_counted are in
    let all = parts_formed (left_inside (is_level (form_at kind.Content) t) 60) are (within_bound around t bound formed) (λ child s. (child_formed formed child s, child_kept unbroken child s)) in
    joined_formed (parts_in (within around t) (out-Tree t).children) (rw counted at all)
