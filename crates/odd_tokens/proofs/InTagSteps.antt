-- One more character in a tag, in each state but those of values.
use Rattle.std.proofs.Common.{◌≡◌, ℕ, Bool, true, false, not, ◌&&◌, ◌||◌, ◌==◌, if◌then◌else◌, List, [], ◌∷◌, ◌++◌, sym, refl, ◌∙◌, append-nil, subst}
use Rattle.std.proofs.lemmas.Bool.{cond_both, and_parts, eqb-true, not-true}
use Rattle.std.specs.Prelude.{None, encode_utf8}
use Rattle.odd_tokens.proofs.InTagDeclaration.{declaration_ends}
use Rattle.odd_tokens.proofs.InTagNames.{name_begun, IsNamed, IsWholeName, first_more, colon_comes, local_begins, local_more, first_ends, local_ends}
use Rattle.odd_tokens.proofs.InTagParts.{value_begins, apart_more, after_more, after_front, before_equals_more, equals_comes, before_quote_more, quote_comes, named_more, opening_front, naming_ends}
use Rattle.odd_tokens.proofs.InTagStates.{start_ends, empty_ends, IsFront, IsAfter, IsApart, IsNaming, IsEnding, IsBeforeEquals, IsBeforeQuote, IsQuoted, IsValued, IsKept, Goes, InState}
use Rattle.odd_tokens.specs.Characters.{is_space, is_white, is_name_start, is_name_char}
use Rattle.odd_tokens.specs.Declaring.{is_declaration_of}
use Rattle.odd_tokens.specs.Lexing.{Lexed, Taken, go, done, fresh_tag, tag_goes_on, tag_space, slash, question, before_equals, before_quote, no_name, named_in, name_goes_on, after_name}
use Rattle.odd_tokens.specs.declared.lexer.NamePart.{NamePart}
use Rattle.odd_tokens.specs.declared.lexer.NamePart.TheVariants as part
use Rattle.odd_tokens.specs.declared.lexer.Named.{Named}
use Rattle.odd_tokens.specs.declared.lexer.Named.TheVariants as named
use Rattle.odd_tokens.specs.declared.lexer.State.{State}
use Rattle.odd_tokens.specs.declared.lexer.State.TheVariants as state
use Rattle.odd_tokens.specs.declared.token.Token.TheVariants as token

-- what holds after a test's two outcomes
pub goes_both : (declares : Bool) (at : ℕ) (read : List ℕ) (b : Bool) (x y : Taken) → (b ≡ true → Goes declares at read x) → (b ≡ false → Goes declares at read y)
    → Goes declares at read (if b then x else y)
goes_both declares at read b x y f g = cond_both b x y (Goes declares at read) f g

-- a character that passes a test for one character is that character
pub with_one : (declares : Bool) (at : ℕ) (read : List ℕ) (c n : ℕ) (t : Taken) → (c == n) ≡ true → Goes declares at (read ++ n ∷ []) t → Goes declares at (read ++ c ∷ []) t
with_one declares at read c n t e g = subst (λ d. Goes declares at (read ++ d ∷ []) t) (sym (eqb-true c n e)) g

-- after a head or an attribute, and perhaps white space
pub tag_goes : (declares : Bool) (at c : ℕ) (front space : List ℕ) (l : Lexed) → IsKept declares at l → IsFront declares at front l.tag → is_white space ≡ true
    → Goes declares at ((front ++ space) ++ c ∷ []) (tag_goes_on l c)
tag_goes declares at c front space l k f w =
    goes_both declares at ((front ++ space) ++ c ∷ []) (c == 0x3F && l.declares) _ _
    (λ h. let p = and_parts (c == 0x3F) l.declares h in
    with_one declares at (front ++ space) c 0x3F (go state.Question l) p.0
    (same_kept state.Question, (sym k.declared ∙ p.1, after_more declares at 0x3F (front ++ space) l.tag IsSpace (IsEnding 0x3F) (ending 0x3F) spaces)))
    (λ _. goes_both declares at ((front ++ space) ++ c ∷ []) (c == 0x2F && not l.declares) _ _
    (λ h. let p = and_parts (c == 0x2F) (not l.declares) h in
    with_one declares at (front ++ space) c 0x2F (go state.Slash l) p.0
    (same_kept state.Slash, (sym k.declared ∙ not-true l.declares p.1, after_more declares at 0x2F (front ++ space) l.tag IsSpace (IsEnding 0x2F) (ending 0x2F) spaces)))
    (λ _. goes_both declares at ((front ++ space) ++ c ∷ []) (c == 0x3E && not l.declares) _ _
    (λ h. let p = and_parts (c == 0x3E) (not l.declares) h in
    with_one declares at (front ++ space) c 0x3E (done (token.Start l.tag) (record l { tag = fresh_tag 0 })) p.0
    (record { between = refl; plain = not-true l.declares p.1 }, k.opened, start_ends declares at front space l.tag (sym k.declared ∙ not-true l.declares p.1) f w))
    (λ _. goes_both declares at ((front ++ space) ++ c ∷ []) (is_space c) _ _
    (λ h. (same_kept state.TagSpace, after_more declares at c (front ++ space) l.tag IsSpace IsApart (λ s v. apart_more s c h v) spaces))
    (λ _. tt))))
  where
    IsSpace : List ℕ → Type 0
    IsSpace s = is_white s ≡ true

    same_kept : (s : State) → IsKept declares at (record l { state = s })
    same_kept s = record { opened = k.opened; begins = k.begins; declared = k.declared }

    spaces : IsAfter declares at (front ++ space) l.tag IsSpace
    spaces = after_front declares at front space l.tag IsSpace f w

    ending : (mark : ℕ) (s : List ℕ) → IsSpace s → IsEnding mark (s ++ mark ∷ [])
    ending mark s v = record { space = s; spaced = v; is_read = refl }

-- after a value
pub value_end_goes : (declares : Bool) (at c : ℕ) (read : List ℕ) (l : Lexed) → IsKept declares at l → IsFront declares at read l.tag
    → Goes declares at (read ++ c ∷ []) (tag_goes_on l c)
value_end_goes declares at c read l k f = subst (λ r. Goes declares at (r ++ c ∷ []) (tag_goes_on l c)) (append-nil read) (tag_goes declares at c read [] l k f refl)

-- after white space
pub tag_space_goes : (declares : Bool) (at c : ℕ) (read : List ℕ) (l : Lexed) → IsKept declares at l → IsAfter declares at read l.tag IsApart
    → Goes declares at (read ++ c ∷ []) (tag_space l c)
tag_space_goes declares at c read l k a =
    goes_both declares at (read ++ c ∷ []) (is_name_start c) _ _
    (λ h. goes_both declares at (read ++ c ∷ []) (is_name_start c) _ None
    (λ _. (
      record { opened = k.opened; begins = k.begins; declared = k.declared },
      after_more declares at c read l.tag IsApart (IsNaming part.First _)
          (λ s v. record { space = s; text = c ∷ []; spaced = v; is_named = name_begun c _ h refl refl; is_read = refl }) a,
    ))
    (λ _. tt))
    (λ _. subst (λ r. Goes declares at (r ++ c ∷ []) (tag_goes_on l c)) (sym a.is_read) (tag_goes declares at c a.front a.part l k a.is_front a.is_part.1))

pub before_equals_goes : (declares : Bool) (at c : ℕ) (read : List ℕ) (l : Lexed) → IsKept declares at l → IsAfter declares at read l.tag (IsBeforeEquals l.name)
    → Goes declares at (read ++ c ∷ []) (before_equals l c)
before_equals_goes declares at c read l k a =
    goes_both declares at (read ++ c ∷ []) (c == 0x3D) _ _
    (λ h. with_one declares at read c 0x3D (go state.BeforeQuote l) h (
      record { opened = k.opened; begins = k.begins; declared = k.declared },
      after_more declares at 0x3D read l.tag (IsBeforeEquals l.name) (IsBeforeQuote l.name) (equals_comes l.name) a,
    ))
    (λ _. goes_both declares at (read ++ c ∷ []) (is_space c) _ None
    (λ h. (
      record { opened = k.opened; begins = k.begins; declared = k.declared },
      after_more declares at c read l.tag (IsBeforeEquals l.name) (IsBeforeEquals l.name) (before_equals_more c l.name h) a,
    ))
    (λ _. tt))

pub before_quote_goes : (declares : Bool) (at c : ℕ) (read : List ℕ) (l : Lexed) → IsKept declares at l → IsAfter declares at read l.tag (IsBeforeQuote l.name)
    → Goes declares at (read ++ c ∷ []) (before_quote l c)
before_quote_goes declares at c read l k a =
    goes_both declares at (read ++ c ∷ []) (c == 0x22 || c == 0x27) _ _
    (λ h. (
      record { opened = k.opened; begins = k.begins; declared = k.declared },
      after_more declares at c read l.tag (IsBeforeQuote l.name) (IsQuoted c l.name (IsValued declares c false []))
          (quote_comes c l.name (IsValued declares c false []) h (value_begins declares c)) a,
    ))
    (λ _. goes_both declares at (read ++ c ∷ []) (is_space c) _ None
    (λ h. (
      record { opened = k.opened; begins = k.begins; declared = k.declared },
      after_more declares at c read l.tag (IsBeforeQuote l.name) (IsBeforeQuote l.name) (before_quote_more c l.name h) a,
    ))
    (λ _. tt))

pub slash_goes : (declares : Bool) (at c : ℕ) (read : List ℕ) (l : Lexed) → IsKept declares at l → declares ≡ false → IsAfter declares at read l.tag (IsEnding 0x2F)
    → Goes declares at (read ++ c ∷ []) (slash l c)
slash_goes declares at c read l k e a =
    goes_both declares at (read ++ c ∷ []) (c == 0x3E) _ None
    (λ h. with_one declares at read c 0x3E (done (token.Empty l.tag) (record l { tag = fresh_tag 0 })) h (
      record { between = refl; plain = k.declared ∙ e },
      k.opened,
      empty_ends declares at read l.tag e a,
    ))
    (λ _. tt)

pub question_goes : (declares : Bool) (at c : ℕ) (read : List ℕ) (l : Lexed) → IsKept declares at l → declares ≡ true → IsAfter declares at read l.tag (IsEnding 0x3F)
    → Goes declares at (read ++ c ∷ []) (question l c)
question_goes declares at c read l k e a =
    goes_both declares at (read ++ c ∷ []) (c == 0x3E && is_declaration_of l.tag.attrs) _ None
    (λ h. let p = and_parts (c == 0x3E) (is_declaration_of l.tag.attrs) h in
    with_one declares at read c 0x3E (done token.Passed (record l { declares = false })) p.0 (
      record { between = refl; plain = refl },
      k.opened,
      declaration_ends declares at read l.tag e a p.1,
    ))
    (λ _. tt)

whole_front : (declares : Bool) (at : ℕ) (read : List ℕ) (p : NamePart) (l : Lexed) → ((text : List ℕ) → IsNamed p text l.name → IsWholeName text l.name)
    → IsAfter declares at read l.tag (IsNaming p l.name) → IsAfter declares at read l.tag (IsBeforeEquals l.name)
whole_front declares at read p l f a =
    record { front = a.front; part = a.part; is_front = a.is_front; is_part = naming_ends p l.name f a.part a.is_part; is_read = a.is_read }

-- what comes after the name
after_goes : (n : Named) (p : NamePart) (declares : Bool) (at c : ℕ) (read : List ℕ) (l : Lexed) → ((text : List ℕ) → IsNamed p text l.name → IsWholeName text l.name)
    → IsKept declares at l
    → InState (state.Name n p) declares at read l → Goes declares at (read ++ c ∷ []) (after_name n l c)
after_goes named.Element p declares at c read l f k o =
    value_end_goes declares at c read (record l { tag = record l.tag { name = l.name }; name = no_name }) (record { opened = k.opened; begins = k.begins; declared = k.declared })
    (opening_front declares at read p l f o)
after_goes named.Attribute p declares at c read l f k a = before_equals_goes declares at c read l k (whole_front declares at read p l f a)
after_goes named.EndTag p declares at c read l f k e = absurd e

-- a part of a name that may be its last goes on or ends
part_goes : (n : Named) (p : NamePart) (declares : Bool) (at c : ℕ) (read : List ℕ) (l : Lexed) → IsKept declares at l → l.state ≡ state.Name n p
    → ((text : List ℕ) → is_name_char c ≡ true → IsNamed p text l.name → IsNamed p (text ++ c ∷ []) (record l.name { local = l.name.local ++ encode_utf8 c }))
    → ((text : List ℕ) → IsNamed p text l.name → IsWholeName text l.name)
    → InState (state.Name n p) declares at read l → Goes declares at (read ++ c ∷ []) (name_goes_on n l c)
part_goes n p declares at c read l k s more f i =
    goes_both declares at (read ++ c ∷ []) (is_name_char c) _ _
    (λ h. (
      record { opened = k.opened; begins = k.begins; declared = k.declared },
      rw s (named_more n declares at c read l (state.Name n p) p p (record l.name { local = l.name.local ++ encode_utf8 c }) (λ text. more text h) i),
    ))
    (λ _. after_goes n p declares at c read l f k i)

pub named_goes : (n : Named) (p : NamePart) (declares : Bool) (at c : ℕ) (read : List ℕ) (l : Lexed) → IsKept declares at l → l.state ≡ state.Name n p
    → InState (state.Name n p) declares at read l → Goes declares at (read ++ c ∷ []) (named_in n p l c)
named_goes named.Element part.Begins declares at c read l k s i = absurd i.is_named
named_goes named.Attribute part.Begins declares at c read l k s i = absurd i.is_part.is_named
named_goes named.EndTag part.Begins declares at c read l k s i = absurd i
named_goes n part.First declares at c read l k s i =
    goes_both declares at (read ++ c ∷ []) (c == 0x3A) _ _
    (λ h. with_one declares at read c 0x3A (go (state.Name n part.LocalBegins) (record l { name = record { prefix = l.name.local; local = [] } })) h (
      record { opened = k.opened; begins = k.begins; declared = k.declared },
      named_more n declares at 0x3A read l (state.Name n part.LocalBegins) part.First part.LocalBegins (record { prefix = l.name.local; local = [] })
          (λ text j. colon_comes text l.name j) i,
    ))
    (λ _. part_goes n part.First declares at c read l k s (λ text h j. first_more text c l.name h j) (λ text j. first_ends text l.name j) i)
named_goes n part.LocalBegins declares at c read l k s i =
    goes_both declares at (read ++ c ∷ []) (is_name_start c) _ None
    (λ h. (
      record { opened = k.opened; begins = k.begins; declared = k.declared },
      named_more n declares at c read l (state.Name n part.Local) part.LocalBegins part.Local (record l.name { local = l.name.local ++ encode_utf8 c })
          (λ text j. local_begins text c l.name h j) i,
    ))
    (λ _. tt)
named_goes n part.Local declares at c read l k s i = part_goes n part.Local declares at c read l k s (λ text h j. local_more text c l.name h j) (λ text j. local_ends text l.name j) i
