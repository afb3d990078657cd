-- Worked examples, computed: by content, as the promises speak, and by places, as the reader answers.
--
-- In order: the known names of an endpoint; a malformed form; an empty value beside a full one; an escape in a
-- name, `=` in a value, and pieces that say nothing; the request of RFC 6749, section 4.1.1.
-- Assumes nothing.
use Prim.Native.Nat.{ℕ}
use mathlib.Core.Path.{◌≡◌, refl}
use mathlib.Core.List.{List, [], ◌∷◌}
use mathlib.Core.Bool.{false}
use lib.ListN.{get_or, set}
use Rattle.octets.specs.Text.{bytes}
use Rattle.octets.specs.Lists.{every, same, index_of, grow, split_on}
use Rattle.encoding.specs.Hex.{hex_value}
use Rattle.form_coding.specs.Coding.{escaped, plain, first_byte, extra, decode_after, sound, well_formed}
use Rattle.form.specs.declared.Count.TheVariants.{Once}
use Rattle.std.specs.Prelude.{Some, None}
use Rattle.form.specs.Content.{is_well_formed_form, piece_name, piece_value, gives, missing, once, repeated, add, value_in, form_value}
use Rattle.form.specs.Places.{unseen, all_unseen, seen_again, enter_at, enter, enter_all, places_of, read_of, distinct, Known}

-- ---- the known names

abbrev pub authorization_names : List (List ℕ)
authorization_names = bytes "response_type" ∷ bytes "client_id" ∷ bytes "redirect_uri" ∷ bytes "scope" ∷ bytes "state" ∷ []

pub authorization-known : Known (bytes "response_type&client_id&redirect_uri&scope&state") authorization_names
unfolding distinct every same split_on grow
authorization-known = record { parted = refl; apart = refl; few = refl }

-- a list that has a name twice is not one of distinct names
pub names-twice : distinct (bytes "code" ∷ bytes "scope" ∷ bytes "code" ∷ []) ≡ false
unfolding distinct every same
names-twice = refl

-- ---- malformed: one digit too few behind the %, in a piece of an unknown name

pub malformed-read : read_of authorization_names (bytes "state=x&a=%4") ≡ None
unfolding read_of is_well_formed_form every split_on grow well_formed sound escaped hex_value
malformed-read = refl

-- ---- an empty value is dropped before repeats are counted; the same value twice is repeated all the same

pub one-state-read : read_of authorization_names (bytes "state=&state=x")
    ≡ Some (set all_unseen 4 (record { count = Once; start = 13; end = 14 }))
unfolding read_of is_well_formed_form every places_of all_unseen enter_all enter enter_at seen_again piece_name split_on grow index_of same well_formed sound decode_after first_byte extra escaped plain
one-state-read = refl

pub two-states : form_value (bytes "state=x&state=x") (bytes "state") ≡ repeated
unfolding form_value value_in gives add piece_name piece_value split_on grow index_of same decode_after first_byte extra escaped plain
two-states = refl

-- ---- pieces are decoded once they are parted; a value runs to the next &; empty pieces and names say nothing

abbrev odd_pieces : List ℕ
odd_pieces = bytes "client%5Fid=x%26y&a==b&=&&x"

pub odd-pieces : (form_value odd_pieces (bytes "client_id") ≡ once (bytes "x&y")) × (form_value odd_pieces (bytes "a") ≡ once (bytes "=b"))
    × (form_value odd_pieces (bytes "x") ≡ missing) × (form_value odd_pieces [] ≡ missing)
unfolding form_value value_in gives add piece_name piece_value split_on grow index_of same decode_after first_byte extra escaped plain hex_value
odd-pieces = (refl, refl, refl, refl)

-- ---- the authorization request of RFC 6749, section 4.1.1

abbrev request : List ℕ
request = bytes "response_type=code&client_id=s6BhdRkqt3&state=xyz&redirect_uri=https%3A%2F%2Fclient%2Eexample%2Ecom%2Fcb"

pub request-redirect : form_value request (bytes "redirect_uri") ≡ once (bytes "https://client.example.com/cb")
unfolding form_value value_in gives add piece_name piece_value split_on grow index_of same decode_after first_byte extra escaped plain hex_value
request-redirect = refl

pub request-client : get_or (places_of authorization_names request) 1 unseen ≡ record { count = Once; start = 29; end = 39 }
unfolding places_of all_unseen enter_all enter enter_at seen_again piece_name split_on grow index_of same decode_after first_byte extra escaped plain hex_value
request-client = refl
