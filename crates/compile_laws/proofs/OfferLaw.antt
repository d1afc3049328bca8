-- Each attribute that is offered is formed, and the datatype that it names is held.
use Rattle.std.proofs.Common.{◌≡◌, ℕ, List, Option, Some, None, refl, subst}
use Rattle.std.proofs.lemmas.Bool.{false≢true}
use Rattle.std.proofs.lemmas.Cmp.{nat_list_cmp_total}
use Rattle.std.specs.FinMap.{find, nat_cmp-IsAntisymmetric, slice_cmp-IsAntisymmetric}
use Rattle.std.specs.Prelude.{IsSome}
use Rattle.compile_defines.proofs.Collected.{stands_collected}
use Rattle.compile_defines.proofs.Standing.{held_stands, stands_right}
use Rattle.odd_attributes.proofs.Formed.{def_formed}
use Rattle.odd_attributes.specs.Formed.{IsFormedDef, IsFormedEdit}
use Rattle.odd_attributes.specs.declared.att_def.AttDef.{AttDef}
use Rattle.odd_attributes.specs.declared.att_def.Datatype.{Datatype}
use Rattle.odd_attributes.specs.declared.att_edit.AttEdit.{AttEdit}
use Rattle.odd_attributes.specs.declared.att_edit.AttEdit.TheVariants as edit
use Rattle.odd_forms.specs.Form.{IsAttributeName}
use Rattle.odd_library.specs.Formed.{IsFormedLibrary, IsFormedPart}
use Rattle.odd_library.specs.declared.library.Component.{Component}
use Rattle.odd_library.specs.declared.library.Component.TheVariants as component
use Rattle.odd_library.specs.declared.library.Library.{Library}
use Rattle.odd_meaning.specs.Links.{IsHeld, datatype_key, named_by, named_by_datatype, named_by_edit, named_by_edits, named_in}
use Rattle.odd_meaning.specs.Offering as offering
use Rattle.odd_meaning.specs.Offering.{Offers, Passes, edits_of}
use Rattle.odd_meaning.specs.Rules.{Breaks, datatype_not_held}
use Rattle.odd_overlay.specs.Tabled.{or_else}
use Rattle.odd_text.specs.Key.{key_cmp}
use Rattle.odd_text.specs.Text.{text_cmp}
use Rattle.odd_text.specs.declared.key.Key.{Key}
use Rattle.odd_text.specs.declared.key.Kind.{Kind}
use Rattle.odd_text.specs.declared.key.Kind.TheVariants as kind
use Rattle.odd_text.proofs.InList.{nothing_stands}
use Rattle.odd_text.specs.Standing.{StandsIn}

-- the edits of a formed component are formed
edit_formed : (k : Kind) (part : Component) → IsFormedPart k part → (ident : List ℕ) (made : AttEdit) → find text_cmp ident (edits_of part) ≡ Some made → IsAttributeName ident × IsFormedEdit made
edit_formed kind.Element (component.Element part) f ident made e = f.atts.each ident made e
edit_formed kind.Class (component.Class part) f ident made e = f.atts.each ident made e
edit_formed k (component.Macro part) f ident made e = cc
edit_formed k (component.Datatype part) f ident made e = cc
edit_formed k part f ident made e = absurd f

-- and what they name is among what it names
edits_named : (part : Component) (key : Key) → StandsIn (named_by_edits (edits_of part)) key → StandsIn (named_by part) key
edits_named (component.Element part) key s = stands_right (named_in part.content) (named_by_edits part.atts) key s
edits_named (component.Class part) key s = s
edits_named (component.Macro part) key s = absurd (nothing_stands key s)
edits_named (component.Datatype part) key s = absurd (nothing_stands key s)

-- what an edit at an ident names is among what all of them name
edit_named : (part : Component) (ident : List ℕ) (made : AttEdit) → find text_cmp ident (edits_of part) ≡ Some made → (key : Key) → StandsIn (named_by_edit made) key → StandsIn (named_by part) key
edit_named part ident made e key s =
    edits_named part key
    (stands_collected (λ (x : List ℕ × AttEdit). named_by_edit x.1) key (edits_of part) (ident, made)
    (held_stands text_cmp nat_list_cmp_total (slice_cmp-IsAntisymmetric nat_cmp-IsAntisymmetric) ident made (edits_of part) e) s)

module _ (library : Library) (none : (key : Key) (rule : ℕ) → Breaks library key rule → ⊥) where
  -- a datatype that a held component names is held
  pub named_held : (key : Key) (part : Component) → find key_cmp key library.parts ≡ Some part → (ident : List ℕ) → StandsIn (named_by part) (datatype_key ident) → IsHeld library (datatype_key ident)
  named_held key part is_there ident s = by (find key_cmp (datatype_key ident) library.parts) refl
    where
      by : (o : Option Component) → find key_cmp (datatype_key ident) library.parts ≡ o → IsSome o
      by None e = absurd (none key 12 (datatype_not_held ident (record { part = part; held = is_there; among = s }) (λ h. false≢true (subst IsSome e h))))
      by (Some there) e = refl

  -- what names held datatypes alone
  abbrev pub NamesHeld : Option Datatype → Type 0
  NamesHeld o = (ident : List ℕ) → StandsIn (named_by_datatype o) (datatype_key ident) → IsHeld library (datatype_key ident)

  -- a definition at an ident that is formed, and names what is held
  pub record IsSound (ident : List ℕ) (def : AttDef) : Type 0 where
    pub named : IsAttributeName ident
    pub formed : IsFormedDef def
    pub held : NamesHeld def.datatype

  -- the later datatype, or else the earlier
  or_else_held : (later earlier : Option Datatype) → NamesHeld later → NamesHeld earlier → NamesHeld (or_else later earlier)
  or_else_held None earlier h k = k
  or_else_held (Some d) earlier h k = h

  module _ (f : IsFormedLibrary library) where
    -- an own Set
    set_sound : (key : Key) (part : Component) → find key_cmp key library.parts ≡ Some part → (ident : List ℕ) (def : AttDef) → find text_cmp ident (edits_of part) ≡ Some (edit.Set def) → IsSound ident def
    set_sound key part there ident def e =
        let made = edit_formed key.kind part (f.formed key part there).1 ident (edit.Set def) e in
        record { named = made.0; formed = made.1; held = λ other s. named_held key part there other (edit_named part ident (edit.Set def) e (datatype_key other) s) }

    -- and what is passed on
    passed_sound : (key : Key) (part : Component) → find key_cmp key library.parts ≡ Some part → (ident : List ℕ) (own : Option AttEdit) → find text_cmp ident (edits_of part) ≡ own
        → (before def : AttDef) → Passes own before def → IsSound ident before → IsSound ident def
    passed_sound key part there ident own e before def offering.as_it_is h = h
    passed_sound key part there ident own e before def (offering.changed fields) h =
        let made = edit_formed key.kind part (f.formed key part there).1 ident (edit.Change fields) e in
        record {
          named = h.named;
          formed = def_formed fields before made.1 h.formed;
          held = or_else_held fields.datatype before.datatype
              (λ other s. named_held key part there other (edit_named part ident (edit.Change fields) e (datatype_key other) s)) h.held;
        }

    -- so each attribute that is offered is sound
    pub offer_sound : (holder : Key) (ident : List ℕ) (def : AttDef) (giver : Key) → Offers library holder ident def giver → IsSound ident def
    offer_sound holder ident def giver (offering.own part there e) = set_sound holder part there ident def e
    offer_sound holder ident def giver (offering.inherited part class before there among above passes) =
        passed_sound holder part there ident (find text_cmp ident (edits_of part)) refl before def passes (offer_sound _ ident before giver above)
