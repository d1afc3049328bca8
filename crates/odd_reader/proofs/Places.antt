-- The place of a fault is one, and so is the place of a level too many. Two beginnings of a file are one up to where the shorter ends.
use Rattle.std.proofs.Common.{◌≡◌, ◌≢◌, ◌⊎◌, inl, inr, ⊎_elim, ℕ, ◌+◌, ◌<◌, ◌≤◌, List, [], ◌∷◌, ◌++◌, length, length-append, sym, refl, ap, ap₂, ◌∙◌, append_assoc, append-nil, All, subst, Bool, true, false, drop, arith}
use Rattle.std.proofs.Math.Utf8.{encode}
use Rattle.std.proofs.lemmas.List.{append_cancel_left}
use Rattle.std.proofs.lemmas.List.Elements.{All-head, All-tail}
use Rattle.std.proofs.lemmas.Str.{encode_same, encodes-append, length-le-encodes}
use Rattle.std.specs.Str.{encode_utf8_all}
use Rattle.odd_tokens.specs.Tokens.{Token, IsToken, token_written, tokens_written, size_of}
use Rattle.odd_tree.specs.Fitting.{is_start_or_empty, Fits, AllFit}
use Rattle.odd_tokens.specs.Openings.{Declaration, IsDeclaration, declaration_written, opening_written}
use Rattle.odd_reader.specs.Reading.{is_fresh}
use Rattle.odd_tree.specs.Spelled.{Begins, IsWholeOpening, NoneFits, NoneTooDeep, FaultPlace, DepthPlace, deepest}
use Rattle.odd_tokens.proofs.Lexing.{one_token, something_written}
use Rattle.odd_reader.proofs.Openings.{OpensNone, fitting_tokens, shorter}
use Rattle.odd_tree.proofs.Fits.{bytes_of}

-- characters, and bytes behind them: one goes on where the other ends

-- ys are xs and more, and l are the bytes of what is more and then m
abbrev pub GoesOn : List ℕ → List ℕ → List ℕ → List ℕ → Type 0
GoesOn xs ys l m = (zs : List ℕ) × (ys ≡ xs ++ zs) × (l ≡ encode_utf8_all zs ++ m)

pub characters_part : (xs ys l m : List ℕ) → encode_utf8_all xs ++ l ≡ encode_utf8_all ys ++ m → GoesOn xs ys l m ⊎ GoesOn ys xs m l
characters_part [] ys l m e = inl (ys, refl, e)
characters_part (x ∷ xs) [] l m e = inr (x ∷ xs, refl, sym e)
characters_part (x ∷ xs) (y ∷ ys) l m e =
    let f = encode_same x y (encode_utf8_all xs ++ l) (encode_utf8_all ys ++ m)
    (sym (append_assoc (encode x) (encode_utf8_all xs) l) ∙ e ∙ append_assoc (encode y) (encode_utf8_all ys) m) in
    ⊎_elim (λ (g : GoesOn xs ys l m). inl (g.0, ap₂ ◌∷◌ (sym f.0) g.1, g.2)) (λ (g : GoesOn ys xs m l). inr (g.0, ap₂ ◌∷◌ f.0 g.1, g.2)) (characters_part xs ys l m f.1)

-- tokens, and bytes behind them

-- the token that begins here is one
pub one_here : (t u : Token) (l m : List ℕ) → IsToken t → IsToken u → encode_utf8_all (token_written t) ++ l ≡ encode_utf8_all (token_written u) ++ m → (t ≡ u) × (l ≡ m)
one_here t u l m a b e =
    let same : t ≡ u = ⊎_elim
    (λ (g : GoesOn (token_written t) (token_written u) l m). (one_token t u g.0 [] a b (sym g.1 ∙ sym (append-nil (token_written u)))).0)
    (λ (g : GoesOn (token_written u) (token_written t) m l). sym (one_token u t g.0 [] b a (sym g.1 ∙ sym (append-nil (token_written t)))).0)
    (characters_part (token_written t) (token_written u) l m e) in
    (same, append_cancel_left (encode_utf8_all (token_written t)) l m (e ∙ ap (λ x. encode_utf8_all (token_written x) ++ m) (sym same)))

pub first_of_bytes : (t : Token) (ts : List Token) (l : List ℕ) → bytes_of (t ∷ ts) ++ l ≡ encode_utf8_all (token_written t) ++ (bytes_of ts ++ l)
first_of_bytes t ts l = ap (λ z. z ++ l) (encodes-append (token_written t) (tokens_written ts)) ∙ append_assoc (encode_utf8_all (token_written t)) (bytes_of ts) l

-- us are ts and more, and l are the bytes of what is more and then m
abbrev pub Longer : List Token → List Token → List ℕ → List ℕ → Type 0
Longer ts us l m = (vs : List Token) × (us ≡ ts ++ vs) × (l ≡ bytes_of vs ++ m)

pub tokens_part : (ts us : List Token) (l m : List ℕ) → All IsToken ts → All IsToken us → bytes_of ts ++ l ≡ bytes_of us ++ m → Longer ts us l m ⊎ Longer us ts m l
tokens_part [] us l m a b e = inl (us, refl, e)
tokens_part (t ∷ ts) [] l m a b e = inr (t ∷ ts, refl, sym e)
tokens_part (t ∷ ts) (u ∷ us) l m a b e =
    let f = one_here t u (bytes_of ts ++ l) (bytes_of us ++ m) (All-head IsToken t ts a) (All-head IsToken u us b) (sym (first_of_bytes t ts l) ∙ e ∙ first_of_bytes u us m) in
    ⊎_elim (λ (g : Longer ts us l m). inl (g.0, ap₂ ◌∷◌ (sym f.0) g.1, g.2)) (λ (g : Longer us ts m l). inr (g.0, ap₂ ◌∷◌ f.0 g.1, g.2))
    (tokens_part ts us l m (All-tail IsToken t ts a) (All-tail IsToken u us b) f.1)

-- a token is some bytes
pub some_length : (t : Token) → IsToken t → 1 ≤ length (encode_utf8_all (token_written t))
some_length t h = go (token_written t) (λ e. something_written t [] h (append-nil (token_written t) ∙ e))
  where
    go : (cs : List ℕ) → cs ≢ [] → 1 ≤ length (encode_utf8_all cs)
    go [] n = absurd (n refl)
    go (c ∷ cs) n =
        let long : length (c ∷ cs) ≤ length (encode_utf8_all (c ∷ cs)) = length-le-encodes (c ∷ cs) in
        omega arith

pub some_bytes : (t : Token) (l : List ℕ) → IsToken t → encode_utf8_all (token_written t) ++ l ≢ []
some_bytes t l h e = omega (arith, some_length t h, ap length e, length-append (encode_utf8_all (token_written t)) l)

-- where no token that fits begins, nothing longer fits
pub ends_there : (ts us : List Token) (l m : List ℕ) → AllFit us → NoneFits ts l → Longer ts us l m → l ≡ m
ends_there ts us l m fit n ([], p, q) = q
ends_there ts us l m fit n (v ∷ vs, p, q) = absurd (n v (bytes_of vs ++ m) (fit ts vs v p) (q ∙ first_of_bytes v vs m))

-- where nothing is left, nothing longer is there
pub ends_at_end : (ts us : List Token) (l m : List ℕ) → AllFit us → l ≡ [] → Longer ts us l m → l ≡ m
ends_at_end ts us l m fit n ([], p, q) = q
ends_at_end ts us l m fit n (v ∷ vs, p, q) = absurd (some_bytes v (bytes_of vs ++ m) (fit ts vs v p).token (sym (first_of_bytes v vs m) ∙ sym q ∙ n))

-- beginnings of one file, each with its whole opening

abbrev pub behind : {bytes left : List ℕ} → Begins bytes left → List ℕ
behind {left = left} b = bytes_of b.tokens ++ left

pub opening_first : {bytes left : List ℕ} (b : Begins bytes left) → bytes ≡ encode_utf8_all (opening_written b.opening) ++ behind b
opening_first {left = left} b =
    b.written ∙ ap (λ z. z ++ left) (encodes-append (opening_written b.opening) (tokens_written b.tokens))
    ∙ append_assoc (encode_utf8_all (opening_written b.opening)) (bytes_of b.tokens) left

-- as long, so the same
as_long : (xs ys l m : List ℕ) → size_of xs ≡ size_of ys → GoesOn xs ys l m → l ≡ m
as_long xs ys l m e ([], p, q) = q
as_long xs ys l m e (z ∷ zs, p, q) =
    let s : size_of ys ≡ size_of xs + size_of (z ∷ zs) = ap size_of p ∙ ap length (encodes-append xs (z ∷ zs)) ∙ length-append (encode_utf8_all xs) (encode_utf8_all (z ∷ zs)) in
    let t : length (z ∷ zs) ≤ size_of (z ∷ zs) = length-le-encodes (z ∷ zs) in
    absurd (omega arith)

pub same_size : {bytes l m : List ℕ} (a : Begins bytes l) (b : Begins bytes m) → IsWholeOpening bytes a.opening → IsWholeOpening bytes b.opening
    → size_of (opening_written a.opening) ≡ size_of (opening_written b.opening)
same_size a b v w =
    let longer : size_of (opening_written a.opening) ≤ size_of (opening_written b.opening) = w a.opening (behind a) a.is_opening (opening_first a) in
    let shorter : size_of (opening_written b.opening) ≤ size_of (opening_written a.opening) = v b.opening (behind b) b.is_opening (opening_first b) in
    omega arith

pub same_behind : {bytes l m : List ℕ} (a : Begins bytes l) (b : Begins bytes m) → IsWholeOpening bytes a.opening → IsWholeOpening bytes b.opening → behind a ≡ behind b
same_behind a b v w =
    let same = same_size a b v w in
    ⊎_elim (λ g. as_long (opening_written a.opening) (opening_written b.opening) (behind a) (behind b) same g)
    (λ g. sym (as_long (opening_written b.opening) (opening_written a.opening) (behind b) (behind a) (sym same) g))
    (characters_part (opening_written a.opening) (opening_written b.opening) (behind a) (behind b) (sym (opening_first a) ∙ opening_first b))

pub begin_alike : {bytes l m : List ℕ} (a : Begins bytes l) (b : Begins bytes m) → IsWholeOpening bytes a.opening → IsWholeOpening bytes b.opening
    → Longer a.tokens b.tokens l m ⊎ Longer b.tokens a.tokens m l
begin_alike {l = l} {m = m} a b v w = tokens_part a.tokens b.tokens l m (fitting_tokens a.tokens a.all_fit) (fitting_tokens b.tokens b.all_fit) (same_behind a b v w)

-- the whole opening

pub nothing_begins : (c : ℕ) (cs more_bytes : List ℕ) → [] ≢ encode_utf8_all (c ∷ cs) ++ more_bytes
nothing_begins c cs more_bytes e =
    let long : length (c ∷ cs) ≤ length (encode_utf8_all (c ∷ cs)) = length-le-encodes (c ∷ cs) in
    omega (arith, ap length e, length-append (encode_utf8_all (c ∷ cs)) more_bytes)

pub parts_of : (xs ys more_bytes : List ℕ) → encode_utf8_all (xs ++ ys) ++ more_bytes ≡ encode_utf8_all xs ++ (encode_utf8_all ys ++ more_bytes)
parts_of xs ys more_bytes = ap (λ bs. bs ++ more_bytes) (encodes-append xs ys) ∙ append_assoc (encode_utf8_all xs) (encode_utf8_all ys) more_bytes

-- the bytes go on with no byte order mark, where there was none before, and with no declaration
pub record NoneOpens (mark : Bool) (left : List ℕ) : Type 0 where
  pub unmarked : mark ≡ false → (more_bytes : List ℕ) → left ≢ encode_utf8_all (0xFEFF ∷ []) ++ more_bytes
  pub undeclared : (d : Declaration) (more_bytes : List ℕ) → IsDeclaration d → left ≢ encode_utf8_all (declaration_written d) ++ more_bytes

pub nothing_opens : (mark : Bool) → NoneOpens mark []
nothing_opens mark = record { unmarked = λ m more_bytes. nothing_begins 0xFEFF [] more_bytes; undeclared = λ d more_bytes i e. nothing_begins 0x3C (drop 1 (declaration_written d)) more_bytes e }

opens_none : (mark : Bool) (xs left more_bytes : List ℕ) → NoneOpens mark left → left ≡ encode_utf8_all xs ++ more_bytes → OpensNone mark xs
opens_none mark xs left more_bytes h e = record {
  unmarked = λ m ys f. h.unmarked m (encode_utf8_all ys ++ more_bytes) (e ∙ ap (λ zs. encode_utf8_all zs ++ more_bytes) f ∙ parts_of (0xFEFF ∷ []) ys more_bytes);
  undeclared = λ d ys i f.
      h.undeclared d (encode_utf8_all ys ++ more_bytes) i (e ∙ ap (λ zs. encode_utf8_all zs ++ more_bytes) f ∙ parts_of (declaration_written d) ys more_bytes);
}

pub whole_opening : {bytes left : List ℕ} (b : Begins bytes left) → (is_fresh b.opening.declaration b.tokens ≡ true → NoneOpens b.opening.mark left) → IsWholeOpening bytes b.opening
whole_opening {left = left} b h o behind_it i e =
    let first = opening_written b.opening in
    let ts = tokens_written b.tokens in
    ⊎_elim
    (λ (g : GoesOn (first ++ ts) (opening_written o) left behind_it). shorter b.opening o b.tokens g.0 [] b.is_opening i b.all_fit
    (λ f. opens_none b.opening.mark g.0 left behind_it (h f) g.2) (sym (append_assoc first ts g.0) ∙ sym g.1 ∙ sym (append-nil (opening_written o))))
    (λ (g : GoesOn (opening_written o) (first ++ ts) behind_it left). shorter b.opening o b.tokens [] g.0 b.is_opening i b.all_fit
    (λ f. record { unmarked = λ m ys k. cc k; undeclared = λ d ys j k. cc k }) (ap (λ xs. first ++ xs) (append-nil ts) ∙ g.1))
    (characters_part (first ++ ts) (opening_written o) left behind_it (sym b.written ∙ e))

-- the beginning of a whole file is the one that goes on with no token
pub same_end : {bytes left : List ℕ} (a : Begins bytes left) (b : Begins bytes []) → IsWholeOpening bytes a.opening → NoneFits a.tokens left
    → (b.tokens ≡ a.tokens) × (left ≡ []) × (size_of (opening_written b.opening) ≡ size_of (opening_written a.opening))
same_end {left = left} a b v n =
    let w = whole_opening b (λ f. nothing_opens b.opening.mark) in
    let same = ⊎_elim longer others (begin_alike a b v w) in
    (same.0, same.1, same_size b a w v)
  where
    longer : Longer a.tokens b.tokens left [] → (b.tokens ≡ a.tokens) × (left ≡ [])
    longer ([], g, k) = (g ∙ append-nil a.tokens, k)
    longer (u ∷ us, g, k) = absurd (n u (bytes_of us ++ []) (b.all_fit a.tokens us u g) (k ∙ first_of_bytes u us []))

    others : Longer b.tokens a.tokens [] left → (b.tokens ≡ a.tokens) × (left ≡ [])
    others ([], g, k) = (sym (g ∙ append-nil b.tokens), sym k)
    others (u ∷ us, g, k) = absurd (some_bytes u (bytes_of us ++ left) (a.all_fit b.tokens us u g).token (sym (k ∙ first_of_bytes u us left)))

-- the place of a fault

stops_there : (bytes : List ℕ) (p : ℕ) (a : FaultPlace bytes p) (us : List Token) (m : List ℕ) → AllFit us → Longer a.begins.tokens us a.left m → a.left ≡ m
stops_there bytes p a us m fit g =
    ⊎_elim (λ n. ends_at_end a.begins.tokens us a.left m fit n g) (λ n. ends_there a.begins.tokens us a.left m fit n g) a.stops

same_place : (p q : ℕ) (bytes l m : List ℕ) → p + length l ≡ length bytes → q + length m ≡ length bytes → l ≡ m → p ≡ q
same_place p q bytes l m a b e = omega (arith, ap length e)

pub one_fault : (bytes : List ℕ) (p q : ℕ) → FaultPlace bytes p → FaultPlace bytes q → p ≡ q
one_fault bytes p q a b =
    same_place p q bytes a.left b.left a.placed b.placed
    (⊎_elim (λ g. stops_there bytes p a b.begins.tokens b.left b.begins.all_fit g) (λ g. sym (stops_there bytes q b a.begins.tokens a.left a.begins.all_fit g))
    (begin_alike a.begins b.begins a.opened b.opened))

-- a token that fits stands before the fault

no_stop : (bytes : List ℕ) (p : ℕ) (f : FaultPlace bytes p) (t : Token) (more : List ℕ) → Fits f.begins.tokens t → f.left ≢ encode_utf8_all (token_written t) ++ more
no_stop bytes p f t more h e = ⊎_elim (λ n. some_bytes t more h.token (sym e ∙ n)) (λ n. n t more h e) f.stops

pub fault_comes_later : (bytes left more : List ℕ) (place p : ℕ) (b : Begins bytes left) (t : Token) → IsWholeOpening bytes b.opening → place + length left ≡ length bytes
    → Fits b.tokens t → left ≡ encode_utf8_all (token_written t) ++ more → FaultPlace bytes p → place < p
fault_comes_later bytes left more place p b t w placed h e f = ⊎_elim longer shorter (begin_alike b f.begins w f.opened)
  where
    longer : Longer b.tokens f.begins.tokens left f.left → place < p
    longer ([], g, k) = absurd (no_stop bytes p f t more (subst (λ ts. Fits ts t) (sym (g ∙ append-nil b.tokens)) h) (sym k ∙ e))
    longer (v ∷ vs, g, k) =
        let one : 1 ≤ length (encode_utf8_all (token_written v)) = some_length v (f.begins.all_fit b.tokens vs v g).token in
        let two : length left ≡ length (encode_utf8_all (token_written v)) + length (bytes_of vs ++ f.left) =
        ap length (k ∙ first_of_bytes v vs f.left) ∙ length-append (encode_utf8_all (token_written v)) (bytes_of vs ++ f.left) in
        omega (arith, f.placed, length-append (bytes_of vs) f.left)

    shorter : Longer f.begins.tokens b.tokens f.left left → place < p
    shorter ([], g, k) = absurd (no_stop bytes p f t more (subst (λ ts. Fits ts t) (g ∙ append-nil f.begins.tokens) h) (k ∙ e))
    shorter (v ∷ vs, g, k) = absurd (no_stop bytes p f v (bytes_of vs ++ left) (b.all_fit f.begins.tokens vs v g) (k ∙ first_of_bytes v vs left))

-- the place of a level too many: of two, the tag at one would stand among the tokens before the other

pub first_deep : (bytes left : List ℕ) (p : ℕ) (a : DepthPlace bytes p) (us : List Token) → AllFit us → NoneTooDeep us → Longer a.begins.tokens us a.left left
    → (us ≡ a.begins.tokens) × (a.left ≡ left)
first_deep bytes left p a us fit shallow ([], g, h) = (g ∙ append-nil a.begins.tokens, h)
first_deep bytes left p a us fit shallow (v ∷ vs, g, h) =
    let f = one_here v a.tag (bytes_of vs ++ left) a.more (fit a.begins.tokens vs v g).token a.fits.token (sym (first_of_bytes v vs left) ∙ sym h ∙ a.follows) in
    let low : length a.open_tags < deepest = shallow a.begins.tokens vs v a.open_tags g (ap is_start_or_empty f.0 ∙ a.is_tag) a.are_open in
    absurd (omega (arith, a.full))

pub one_depth : (bytes : List ℕ) (p q : ℕ) → DepthPlace bytes p → DepthPlace bytes q → p ≡ q
one_depth bytes p q a b =
    same_place p q bytes a.left b.left a.placed b.placed
    (⊎_elim (λ g. (first_deep bytes b.left p a b.begins.tokens b.begins.all_fit b.first g).1)
    (λ g. sym (first_deep bytes a.left q b a.begins.tokens a.begins.all_fit a.first g).1) (begin_alike a.begins b.begins a.opened b.opened))
