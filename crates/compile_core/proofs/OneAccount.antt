-- An element has one account.
use Rattle.std.proofs.Common.{◌≡◌, ℕ, List, sym, ◌∙◌}
use Rattle.std.proofs.lemmas.Cmp.{nat_list_cmp_total}
use Rattle.std.proofs.lemmas.Option.{same_Some}
use Rattle.std.specs.Cmp.{IsTotalOrder}
use Rattle.odd_text.specs.Text.{text_cmp}
use Rattle.odd_text.proofs.SetOf.{one_set}
use Rattle.odd_library.specs.Odd.{element_key}
use Rattle.odd_library.specs.declared.library.Component.TheVariants as component
use Rattle.odd_library.specs.declared.library.ElementPart.{ElementPart}
use Rattle.odd_library.specs.declared.library.Library.{Library}
use Rattle.odd_meaning.specs.Classes.{IsMember}
use Rattle.odd_classes.specs.Offered.{IsOfferOfOne, offer_cmp}
use Rattle.compile_core.specs.Account.{IsAccount, account_text}

-- offers are in order by their idents
offer_total : IsTotalOrder offer_cmp
offer_total = record {
  antisymm = λ x y. nat_list_cmp_total.antisymm x.ident y.ident;
  trans = λ x y z. nat_list_cmp_total.trans x.ident y.ident z.ident;
  congr = λ x y z. nat_list_cmp_total.congr x.ident y.ident z.ident;
}

-- an element's part
same_part : (one other : ElementPart) → component.Element one ≡ component.Element other → one ≡ other
same_part one other e = cc

-- so two texts that are accounts of it are one
pub one_account : (library : Library) (ident text other : List ℕ) → IsAccount library ident text → IsAccount library ident other → text ≡ other
one_account library ident text other a b =
    let part : a.part ≡ b.part = same_part a.part b.part (same_Some _ _ (sym a.held ∙ b.held)) in
    let classes : a.classes ≡ b.classes = one_set text_cmp nat_list_cmp_total (λ class. IsMember library class (element_key ident)) a.classes b.classes a.are_classes b.are_classes in
    let offers : a.offers ≡ b.offers = one_set offer_cmp offer_total (IsOfferOfOne library ident) a.offers b.offers a.are_offers b.are_offers in
    a.printed ∙ (λ i. account_text ident (part i) (classes i) (offers i)) ∙ sym b.printed
