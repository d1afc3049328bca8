-- What a search finds in one of two trees that say the same in another order it finds in the other, in another order.
use Rattle.std.proofs.Common.{◌≡◌, ℕ, ◌&&◌, Bool, true, false, List, [], ◌∷◌, ◌++◌, append_assoc, inl, inr, refl, sym, ap, subst, ◌∙◌}
use Rattle.std.proofs.lemmas.Bool.{cases_Bool}
use Rattle.odd_text.specs.declared.name.Bind.{Bind}
use Rattle.odd_text.specs.Standing.{StandsIn}
use Rattle.odd_tree.specs.Elements.{children_of, within}
use Rattle.odd_tree.specs.declared.tree.Tree.{Tree}
use Rattle.odd_forms.specs.Names.{is_one_of}
use Rattle.odd_items.proofs.ByNames.{one_search}
use Rattle.odd_items.specs.Search.{Finds, FindsAmong, Found, own}
use Rattle.odd_items.specs.Search as search
use Rattle.order_laws.specs.Pairs.{AreAllPaired, ArePaired}
use Rattle.order_laws.specs.Pairs as pairs
use Rattle.order_laws.proofs.Alike.{same_one_of, same_searched, same_within}
use Rattle.order_laws.proofs.OneToOne.{AreMatched, matched_amid, matched_both, matched_pair, matched_weaker}
use Rattle.order_laws.proofs.OneToOne as matched
use Rattle.order_laws.proofs.PairsProofs.{pair_itself, paired_reordered}
use Rattle.order_laws.proofs.Shuffled.{stands_left, stands_right}
use Rattle.odd_text.proofs.InList.{stands_later}

-- the same is declared around both, and they are one of these pairs
pub record ArePairedFound (all : List (Tree × Tree)) (f g : Found) : Type 0 where
  pub around : f.around ≡ g.around
  pub pair : StandsIn all (f.element, g.element)

-- so they are one of more pairs
paired_in : (all more : List (Tree × Tree)) → ((p : Tree × Tree) → StandsIn all p → StandsIn more p) → (f g : Found) → ArePairedFound all f g → ArePairedFound more f g
paired_in all more within f g k = record { around = k.around; pair = within (f.element, g.element) k.pair }

module _ (names : List (List ℕ)) (outermost : Bool) where
  -- what is found among two lists of elements is what is found in the first, and then in the second
  pub among_parts : (around : List Bind) (ts us : List Tree) (found : List Found) → FindsAmong names outermost around (ts ++ us) found
      → (first : List Found) × (later : List Found) × FindsAmong names outermost around ts first × FindsAmong names outermost around us later × (found ≡ first ++ later)
  among_parts around [] us found h = ([], found, search.nothing, h, refl)
  among_parts around (t ∷ ts) us found (search.element first later one others is) =
      let k = among_parts around ts us later others in
      (first ++ k.0, k.1, search.element first k.0 one k.2 refl, k.3, is ∙ ap (λ fs. first ++ fs) k.4 ∙ sym (append_assoc first k.0 k.1))

  -- and the other way round
  pub among_both : (around : List Bind) (ts us : List Tree) (first later : List Found) → FindsAmong names outermost around ts first → FindsAmong names outermost around us later
      → FindsAmong names outermost around (ts ++ us) (first ++ later)
  among_both around [] us first later search.nothing k = k
  among_both around (t ∷ ts) us found later (search.element one others h hs is) k =
      search.element one (others ++ later) h (among_both around ts us others later hs k) (ap (λ fs. fs ++ later) is ∙ append_assoc one others later)

  -- the elements themselves match, where they have one of the names
  own_paired : (around : List Bind) {t u : Tree} {all : List (Tree × Tree)} → ArePaired t u all → AreMatched (ArePairedFound all) (own names around t) (own names around u)
  own_paired around {t = t} {u = u} {all = all} p = elim (cases_Bool (is_one_of names t)) [
    | inl named ↦
        let there : is_one_of names u ≡ true = sym (same_one_of names (paired_reordered p)) ∙ named in
        let itself : ArePairedFound all (record { around = around; element = t }) (record { around = around; element = u }) = record { around = refl; pair = pair_itself p } in
        rw named (rw there (matched_pair (ArePairedFound all) (record { around = around; element = t }) (record { around = around; element = u }) itself))
    | inr other ↦ let there : is_one_of names u ≡ false = sym (same_one_of names (paired_reordered p)) ∙ other in rw other (rw there matched.nothing)
  ]

  mutual
    -- a search finds in the other what is paired with what it finds in the one
    pub finds_paired : (around : List Bind) {t u : Tree} {all : List (Tree × Tree)} {found : List Found} → ArePaired t u all → Finds names outermost around t found
        → (others : List Found) × Finds names outermost around u others × AreMatched (ArePairedFound all) found others
    finds_paired around p (search.passed other) = ([], search.passed (sym (same_searched (paired_reordered p)) ∙ other), matched.nothing)
    finds_paired around {t = t} {u = u} {all = all} p (search.outer q o named) = (
      record { around = around; element = u } ∷ [],
      search.outer (sym (same_searched (paired_reordered p)) ∙ q) o (sym (same_one_of names (paired_reordered p)) ∙ named),
      matched_pair (ArePairedFound all) (record { around = around; element = t }) (record { around = around; element = u }) (record { around = refl; pair = pair_itself p }),
    )
    finds_paired around (pairs.element {t = t} {u = u} {below = below} r are) (search.through inner tei apart among is) =
        let p : ArePaired t u ((t, u) ∷ below) = pairs.element r are in
        let h = among_paired (within around t) are among in
        let inside = matched_weaker (ArePairedFound below) (ArePairedFound ((t, u) ∷ below))
        (λ f g k. paired_in below ((t, u) ∷ below) (λ q s. stands_later (t, u) q below s) f g k) h.2 in (
          own names around u ++ h.0,
          search.through h.0 (sym (same_searched r) ∙ tei) (ap (λ b. outermost && b) (sym (same_one_of names r)) ∙ apart)
              (subst (λ bs. FindsAmong names outermost bs (children_of u) h.0) (same_within around r) h.1) refl,
          subst (λ fs. AreMatched (ArePairedFound ((t, u) ∷ below)) fs (own names around u ++ h.0)) (sym is)
              (matched_both (ArePairedFound ((t, u) ∷ below)) (own_paired around p) inside),
        )

    -- and so it does among several
    pub among_paired : (around : List Bind) {loose : Bool} {ts us : List Tree} {all : List (Tree × Tree)} {found : List Found} → AreAllPaired loose ts us all
        → FindsAmong names outermost around ts found → (others : List Found) × FindsAmong names outermost around us others × AreMatched (ArePairedFound all) found others
    among_paired around pairs.nothing search.nothing = ([], search.nothing, matched.nothing)
    among_paired around {all = whole} (pairs.next {u = u} before after first_pairs later_pairs is front paired_one rest all) (search.element first later one among at) =
        let in_first : (p : Tree × Tree) → StandsIn first_pairs p → StandsIn whole p = λ p k. subst (λ ps. StandsIn ps p) (sym all) (stands_left first_pairs later_pairs p k) in
        let in_later : (p : Tree × Tree) → StandsIn later_pairs p → StandsIn whole p = λ p k. subst (λ ps. StandsIn ps p) (sym all) (stands_right first_pairs later_pairs p k) in
        let f = finds_paired around paired_one one in
        let h = among_paired around rest among in
        let p = among_parts around before after h.0 h.1 in
        let here = matched_weaker (ArePairedFound first_pairs) (ArePairedFound whole) (λ x y k. paired_in first_pairs whole in_first x y k) f.2 in
        let others = matched_weaker (ArePairedFound later_pairs) (ArePairedFound whole) (λ x y k. paired_in later_pairs whole in_later x y k) h.2 in
        let behind : FindsAmong names outermost around (u ∷ after) (f.0 ++ p.1) = search.element f.0 p.1 f.1 p.3 refl in (
          p.0 ++ (f.0 ++ p.1),
          subst (λ ts. FindsAmong names outermost around ts (p.0 ++ (f.0 ++ p.1))) (sym is) (among_both around before (u ∷ after) p.0 (f.0 ++ p.1) p.2 behind),
          subst (λ fs. AreMatched (ArePairedFound whole) fs (p.0 ++ (f.0 ++ p.1))) (sym at)
              (matched_amid (ArePairedFound whole) p.0 p.1 here (subst (AreMatched (ArePairedFound whole) later) p.4 others)),
        )

  -- what is found in the one of two trees that are paired is paired with what is found in the other
  pub found_paired : (around : List Bind) {t u : Tree} {all : List (Tree × Tree)} {found others : List Found} → ArePaired t u all → Finds names outermost around t found
      → Finds names outermost around u others → AreMatched (ArePairedFound all) found others
  found_paired around {u = u} {all = all} {found = found} {others = others} p f g =
      let h = finds_paired around p f in
      subst (AreMatched (ArePairedFound all) found) (one_search names outermost around u h.0 others h.1 g) h.2
