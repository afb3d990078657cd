-- The sizes of what a call brings and of what is written. No other file of specs/ names one of these numbers.
use Rattle.std.specs.Prelude.{ℕ, ◌*◌}
use Rattle.token_store.specs.Layout.{handle_size}

-- "query over 4,096", "body over 4,096"
abbrev pub most_form : ℕ
most_form = 4096

-- "header over 512 bytes"
abbrev pub most_header : ℕ
most_header = 512

-- "state over 200 bytes"
abbrev pub most_state : ℕ
most_state = 200

-- "43 to 128 unreserved characters"
abbrev pub least_verifier : ℕ
least_verifier = 43

abbrev pub most_verifier : ℕ
most_verifier = 128

-- "output below 1,024"
abbrev pub least_output : ℕ
least_output = 1024

-- "random bytes not 20 (token: 40)": one handle, and two
abbrev pub code_random : ℕ
code_random = handle_size

abbrev pub token_random : ℕ
token_random = 2 * handle_size

-- the longest location: a redirect address of 200 bytes, `?` or `&`, `code=` with a handle in hex (45), `&state=` with a
-- state of which each byte takes three (607)
abbrev pub longest_location : ℕ
longest_location = 853

-- the longest reply: one with both tokens (40 bytes of hex each) and all eight scope names (48 bytes)
abbrev pub longest_reply : ℕ
longest_reply = 217
