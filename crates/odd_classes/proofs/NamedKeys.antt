-- What contents and edits of attributes name, one part after the other.
use Rattle.std.proofs.Common.{◌≡◌, ◌+◌, ◌<◌, ℕ, List, ◌++◌, None, Some, append-nil, get_or, length, take, refl, sym, ap, ◌∙◌}
use Rattle.std.proofs.lemmas.List.{flat_map_more}
use Rattle.std.proofs.lemmas.List.Elements.{filter-append}
use Rattle.std.proofs.lemmas.Option.{same_Some, slice_get-get_or, slice_get_within}
use Rattle.std.specs.Prelude.{Option, flat_map, option_map, slice_get}
use Rattle.odd_attributes.specs.declared.att_def.Datatype.{Datatype}
use Rattle.odd_attributes.specs.declared.att_edit.AttEdit.{AttEdit}
use Rattle.odd_attributes.specs.declared.att_edit.AttEdit.TheVariants as edit
use Rattle.odd_content.specs.declared.content.Content.{Content, Sequence, Alternate, Row_of-Content, end_of-Content, more_of-Content, items-the_row-Content, items_hidden-the_row-Content-0}
use Rattle.odd_content.specs.declared.content.Content.TheBlock.{hidden-the_row-Content-0}
use Rattle.odd_meaning.specs.Links.{named_by_datatype, named_by_edit, named_by_edits, named_in, named_in_parts}
use Rattle.odd_text.specs.declared.key.Key.{Key}
use Rattle.odd_text.proofs.InList.{ends}
use Rattle.rng_types.specs.declared.bounds.Bounds.{Bounds}
use Rattle.odd_classes.specs.Placing.{datatype_in, is_of_kind, those_of}
use Rattle.odd_classes.proofs.OfKind.{filter_each}
use Rattle.odd_text.specs.declared.key.Kind.{Kind}

-- parts name what each of them names
named_listed : {n : _} (row : Row_of-Content n) → named_in_parts row ≡ flat_map named_in (items-the_row-Content n row)
named_listed end_of-Content = refl
named_listed (more_of-Content part row) = ap (λ keys. named_in part ++ keys) (named_listed row)

-- the same of a list of parts
named_of_parts : (parts : List Content) → named_in_parts (hidden-the_row-Content-0 parts) ≡ flat_map named_in parts
named_of_parts parts = named_listed (hidden-the_row-Content-0 parts) ∙ ap (flat_map named_in) (items_hidden-the_row-Content-0 parts)

-- a sequence names what its parts name
pub sequence_named : (wanted : Kind) (parts : List Content) (b : Bounds) → those_of wanted (named_in (Sequence parts b)) ≡ flat_map (λ part. those_of wanted (named_in part)) parts
sequence_named wanted parts b = ap (those_of wanted) (named_of_parts parts) ∙ filter_each (λ key. is_of_kind wanted key.kind) named_in parts

-- and so does an alternate
pub alternate_named : (wanted : Kind) (parts : List Content) (b : Bounds) → those_of wanted (named_in (Alternate parts b)) ≡ flat_map (λ part. those_of wanted (named_in part)) parts
alternate_named = sequence_named

-- what a content and edits name
pub both_named : (wanted : Kind) (content : Content) (edits : List (List ℕ × AttEdit))
    → those_of wanted (named_in content) ++ flat_map (λ x. those_of wanted (named_by_edit x.1)) edits ≡ those_of wanted (named_in content ++ named_by_edits edits)
both_named wanted content edits =
    let test = λ (key : Key). is_of_kind wanted key.kind in
    ap (λ keys. those_of wanted (named_in content) ++ keys) (sym (filter_each test (λ x. named_by_edit x.1) edits)) ∙ sym (filter-append test (named_in content) (named_by_edits edits))

-- what edits name
pub edits_named : (wanted : Kind) (edits : List (List ℕ × AttEdit)) → flat_map (λ x. those_of wanted (named_by_edit x.1)) edits ≡ those_of wanted (named_by_edits edits)
edits_named wanted edits = sym (filter_each (λ key. is_of_kind wanted key.kind) (λ x. named_by_edit x.1) edits)

-- an edit names what its datatype names
edit_named : (e : AttEdit) → named_by_edit e ≡ named_by_datatype (datatype_in e)
edit_named (edit.Set def) = refl
edit_named (edit.Change fields) = refl
edit_named edit.Delete = refl

-- the edit at a place is that of an entry
edit_at : (edits : List (List ℕ × AttEdit)) (at : ℕ) (e : AttEdit) → Some e ≡ option_map (λ x. x.1) (slice_get edits at) → (ident : List ℕ) × (slice_get edits at ≡ Some (ident, e))
edit_at edits at e is = by (slice_get edits at) is
  where
    by : (o : Option (List ℕ × AttEdit)) → Some e ≡ option_map (λ x. x.1) o → (ident : List ℕ) × (o ≡ Some (ident, e))
    by None h = cc
    by (Some x) h = (x.0, ap (λ y. Some (x.0, y)) (sym (same_Some _ _ h)))

module _ (wanted : Kind) (keys : List Key) (edits : List (List ℕ × AttEdit)) (at : ℕ) (e : AttEdit) (is : Some e ≡ option_map (λ x. x.1) (slice_get edits at)) where
  -- the wanted ones that edits name
  abbrev pub wanted_of : List (List ℕ × AttEdit) → List Key
  wanted_of = flat_map (λ x. those_of wanted (named_by_edit x.1))

  -- with one edit more they name what its datatype names
  pub edit_more : (d : Option Datatype) → d ≡ datatype_in e → (keys ++ wanted_of (take at edits)) ++ those_of wanted (named_by_datatype d) ≡ keys ++ wanted_of (take (at + 1) edits)
  edit_more d gives =
      let found = edit_at edits at e is in
      let entry : List ℕ × AttEdit = (found.0, e) in
      let within : at < length edits = slice_get_within edits at entry found.1 in
      let here : entry ≡ get_or edits at entry = same_Some _ _ (sym found.1 ∙ slice_get-get_or edits at entry within) in
      ap (λ new. (keys ++ wanted_of (take at edits)) ++ those_of wanted new) (ap named_by_datatype gives ∙ sym (edit_named e)) ∙ flat_map_more (λ x. those_of wanted (named_by_edit x.1)) keys (take at edits) entry
      ∙ ap (λ es. keys ++ wanted_of es) (sym (ends edits at entry within here))

  -- and where it has none, no more
  pub edit_without : None ≡ datatype_in e → keys ++ wanted_of (take at edits) ≡ keys ++ wanted_of (take (at + 1) edits)
  edit_without none = sym (append-nil (keys ++ wanted_of (take at edits))) ∙ edit_more None none
