-- What the claims know of a store: how many slots it has, and by a slot's bytes whether it holds a token, which one, and from which code.
use Rattle.std.specs.Prelude.{ℕ, Bool, ◌&&◌, ◌||◌, List, eqb, take}
use Rattle.encoding.specs.Hex.{read_handle, presents}
use Rattle.token_store.specs.Store.{decode_slot}

-- "In August 512 slots ran out and apps got 503. Raise it to 900": the claims' own number
abbrev pub slots_in_all : ℕ
slots_in_all = 900

-- "A presented handle is 40 lower-case hex digits; any other text matches no slot."
abbrev pub is_text_of : List ℕ → List ℕ → Bool
is_text_of text handle = presents (read_handle text) handle

-- by a slot's bytes: "3 access; 4 refresh"
abbrev pub holds_access : List ℕ → Bool
holds_access slot = eqb (decode_slot slot).kind 3

abbrev pub holds_token : List ℕ → Bool
holds_token slot = holds_access slot || eqb (decode_slot slot).kind 4

-- its handle is this text's; its origin, the first twenty bytes of the link, is the code of this text
abbrev pub has_text : List ℕ → List ℕ → Bool
has_text text slot = is_text_of text (decode_slot slot).handle

abbrev pub came_from : List ℕ → List ℕ → Bool
came_from text slot = is_text_of text (take 20 (decode_slot slot).link)

abbrev pub holds_token_from : List ℕ → List ℕ → Bool
holds_token_from text slot = holds_token slot && came_from text slot
