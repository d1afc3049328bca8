-- What is read of a file as it stands: what it declares, or its first offence.
use Rattle.std.proofs.Common.{◌≡◌, ℕ, List, [], ◌∷◌, Option, Some, None, Bor, slice_get, refl, ap, subst, ◌∙◌, codes, unwrap_or, false}
use Rattle.std.proofs.lemmas.Option.{same_Some}
use Rattle.std.specs.Option.{option_copied}
use Rattle.odd_forms.specs.Faults.{AttributeFault, OwnFault}
use Rattle.odd_forms.specs.Form.{name}
use Rattle.odd_forms.specs.Table.{needed}
use Rattle.odd_items.proofs.Standing.{one_search}
use Rattle.odd_items.specs.Groups.{schema_names}
use Rattle.odd_items.specs.Search.{Finds, Found}
use Rattle.odd_items.specs.Searching.{AreKept}
use Rattle.odd_items.specs.declared.searching.Kept.{Kept}
use Rattle.odd_items.specs.declared.searching.Level.{Level}
use Rattle.odd_library.specs.First.{IsFirstOf}
use Rattle.odd_library.specs.declared.fault.Fault.{Fault}
use Rattle.odd_text.specs.declared.offence.Offence.{Offence}
use Rattle.odd_text.specs.declared.offence.Who.TheVariants as who
use Rattle.odd_text.proofs.InList.{stands_first}
use Rattle.odd_tree.specs.Elements.{given}
use Rattle.odd_tree.specs.declared.tree.Tree.{Tree}
use Rattle.odd_decls.proofs.OneDoc.{HasNone}
use Rattle.odd_decls.specs.Declares.{ident_in}
use Rattle.odd_decls.specs.Offences.{Offends, OffendsWhole, SchemasOffend}
use Rattle.odd_decls.specs.Reading.{IsFirst, IsRefusalWhole}

-- the first that was kept is kept of the first `schemaSpec`
pub first_kept : (levels : List Level) (o : Option (Bor Kept)) (keeps : List Kept) (schemas : List Found) → option_copied o ≡ slice_get keeps 0 → AreKept levels keeps schemas → IsFirst o schemas
first_kept levels None keeps schemas e AreKept.none = refl
first_kept levels None keeps schemas e (AreKept.more is rest) = cc
first_kept levels (Some kept) keeps schemas e AreKept.none = cc
first_kept levels (Some kept) keeps schemas e (AreKept.more {kept = one} {found = found} {founds = founds} is rest) =
    (found, founds, refl, ap (λ k. k.tree.now) (same_Some kept.now one e) ∙ is.tree)

-- a file without an offence has an ident
pub ident_given : (t : Tree) (schemas : List Found) → HasNone t → Finds schema_names false [] t schemas → ident_in schemas ≡ Some (unwrap_or (ident_in schemas) [])
ident_given t [] none finds = refl
ident_given t (first ∷ others) none finds = by_value (given first.element (codes "ident")) refl
  where
    by_value : (value : Option (List ℕ)) → given first.element (codes "ident") ≡ value → value ≡ Some (unwrap_or value [])
    by_value None e =
        absurd (none _ 1 (record {
          schemas = first ∷ others;
          found = finds;
          offends = Offends.schema (SchemasOffend.itself (OwnFault.attribute (needed (codes "ident") name) (stands_first _ _) (AttributeFault.absent refl e)) refl);
        }))
    by_value (Some value) e = refl

-- an offence of the file is one with the `schemaSpec` that the search finds
offends_there : (t : Tree) (schemas : List Found) (place rule : ℕ) → Finds schema_names false [] t schemas → OffendsWhole t place rule → Offends t schemas place rule
offends_there t schemas place rule finds h = subst (λ fs. Offends t fs place rule) (one_search schema_names false [] t h.schemas schemas h.found finds) h.offends

-- so where there is none with these the file has none
pub none_whole : (t : Tree) (schemas : List Found) → Finds schema_names false [] t schemas → ((place rule : ℕ) → Offends t schemas place rule → ⊥) → HasNone t
none_whole t schemas finds none place rule h = none place rule (offends_there t schemas place rule finds h)

-- what a fault is told as
abbrev pub told_as : ℕ → Fault → Offence
told_as file fault = record { file = file; who = who.At fault.at; rule = fault.rule }

-- and the first with these is the first of the file
pub refusal_whole : (t : Tree) (schemas : List Found) (file : ℕ) (fault : Fault) (offence : Offence) → Finds schema_names false [] t schemas → IsFirstOf (Offends t schemas) fault.at fault.rule
    → told_as file fault ≡ offence → IsRefusalWhole t file offence
refusal_whole t schemas file fault offence finds first is = subst (IsRefusalWhole t file) is (record {
  in_file = refl;
  place = fault.at;
  placed = refl;
  is_first = record {
    is_one = record { schemas = schemas; found = finds; offends = first.is_one };
    first = λ other rule h. first.first other rule (offends_there t schemas other rule finds h);
  };
})
