-- For contracts inside; the exports' contracts do not cite it.
--
-- Where the reader finds the values of the known names: a list of places, in the order of the names.
--
-- The code hands the reader the names as one text with `&` between them, so that one reader serves every list of names:
-- `b"response_type&client_id&redirect_uri&scope&state"` for the authorization endpoint.
use Rattle.std.specs.Prelude.{ℕ, ◌+◌, ◌-◌, ◌<◌, ◌≤◌, ◌≡◌, List, [], ◌∷◌, Bool, true, false, cond, not, ◌&&◌, Option, Some, None, leb, ltb, get_or, length, drop, set, replicate, position}
use Rattle.octets.specs.Lists.{part, every, same, index_of}
use Rattle.octets.specs.Search.{any}
use Rattle.form_coding.specs.Coding.{decode}
use Rattle.form.specs.Content.{pieces, is_well_formed_form, piece_name, Value, missing, once, repeated, form_value, is_repeated}
use Rattle.form.specs.declared.Count.{Count}
use Rattle.form.specs.declared.Count.TheVariants.{Missing, Once, Repeated}
use Rattle.form.specs.declared.Place.{Place}
use Rattle.form.specs.declared.Span.{Span}
use Rattle.form.specs.declared.Cursor.{Cursor}

-- how many places there are: as many as the longest list of names needs
abbrev pub place_count : ℕ
place_count = 8

-- a name that was not seen
abbrev pub unseen : Place
unseen = record { count = Missing; start = 0; end = 0 }

unfoldable pub all_unseen : List Place
all_unseen = replicate place_count unseen

-- where a name stands in a list of names, if it is one of them
abbrev pub rank : List ℕ → List (List ℕ) → Option ℕ
rank n names = position (same n) names

-- one more of a name
abbrev pub one_more : Count → Count
one_more Missing = Once
one_more Once = Repeated
one_more Repeated = Repeated

-- the place after a value of its name stands from a to e
unfoldable pub seen_again : Place → ℕ → ℕ → Place
seen_again p a e = record { count = one_more p.count; start = a; end = e }

-- a value that stands from a to e is entered into a copy of the places, where its name has one of them
unfoldable pub enter_at : Option ℕ → List Place → ℕ → ℕ → List Place
enter_at None ps a e = ps
enter_at (Some k) ps a e = cond (ltb k place_count) (set ps k (seen_again (get_or ps k unseen) a e)) ps

-- a piece p that begins at `at` is entered: not if its value is empty or its name unknown
unfoldable pub enter : List (List ℕ) → List Place → ℕ → List ℕ → List Place
enter names ps at p =
    let n = index_of 61 p in
    cond (ltb (n + 1) (length p)) (enter_at (rank (piece_name p) names) ps (at + n + 1) (at + length p)) ps

-- pieces that begin at `at`, one byte between each and the next
unfoldable pub enter_all : List (List ℕ) → List Place → ℕ → List (List ℕ) → List Place
enter_all names ps at [] = ps
enter_all names ps at (p ∷ rest) = enter_all names (enter names ps at p) (at + length p + 1) rest

-- the places of a form
unfoldable pub places_of : List (List ℕ) → List ℕ → List Place
places_of names s = enter_all names all_unseen 0 (pieces s)

-- what the reader answers for a list of names and a form: nothing for a malformed one
unfoldable pub read_of : List (List ℕ) → List ℕ → Option (List Place)
read_of names s = cond (is_well_formed_form s) (Some (places_of names s)) None

-- the piece at a cursor, and the cursor past it
unfoldable pub step_of : List ℕ → ℕ → Option (Span × Cursor)
step_of s at =
    let n = index_of 38 (drop at s) in
    cond (leb at (length s)) (Some (record { start = at; end = at + n }, record { at = at + n + 1 })) None

-- ---- what the answer means

-- what a place of the form s says of its name
unfoldable pub view_as : List ℕ → Count → Value
view_as v Missing = missing
view_as v Once = once (decode v)
view_as v Repeated = repeated

abbrev pub view_of : List ℕ → Place → Value
view_of s p = view_as (part s p.start (p.end - p.start)) p.count

-- some place says that its name is repeated
abbrev pub any_repeated : List ℕ → List Place → Bool
any_repeated s places = any (λ p. is_repeated (view_of s p)) places

-- a place lies within the form
abbrev pub Within : List ℕ → Place → Type 0
Within s p = (p.start ≤ p.end) × (p.end ≤ length s)

-- the place is where the reader found the name: it lies within the form and says what the form's pieces say
pub record StandsAt (s name : List ℕ) (p : Place) : Type 0 where
  pub within : Within s p
  pub value : view_of s p ≡ form_value s name

-- the form s is well formed, each of the names stands at its place, and the places say whether one of them is repeated
pub record Stands (names : List (List ℕ)) (s : List ℕ) (places : List Place) : Type 0 where
  pub formed : is_well_formed_form s ≡ true
  pub at : (k : ℕ) → k < length names → StandsAt s (get_or names k []) (get_or places k unseen)
  pub repeats : any_repeated s places ≡ any (λ n. is_repeated (form_value s n)) names

-- no two of the names are equal
unfoldable pub distinct : List (List ℕ) → Bool
distinct [] = true
distinct (n ∷ ns) = every (λ m. not (same n m)) ns && distinct ns

-- the text is these names with `&` between them; no two are equal, and each has a place
pub record Known (text : List ℕ) (names : List (List ℕ)) : Type 0 where
  pub parted : pieces text ≡ names
  pub apart : distinct names ≡ true
  pub few : leb (length names) place_count ≡ true

-- what the answer r to the form s and a text of names says
pub record Says (text s : List ℕ) (r : Option (List Place)) : Type 0 where
  pub malformed : r ≡ None → is_well_formed_form s ≡ false
  pub stands : (places : List Place) → r ≡ Some places → (names : List (List ℕ)) → Known text names → Stands names s places
