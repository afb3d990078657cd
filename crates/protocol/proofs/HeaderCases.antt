-- The cases of a header's two halves (RFC 6749, section 2.3.1): one on each side of every sentence of document 02's second request, and of
-- the rules of forms where they decide something there.
--
-- The clients are this table's own, chosen so that a wrong reading of the halves lets one in that is to be refused, or refuses one that
-- is to be let in. Stores, answers and calls are those of `TokenCases`. A header is made of the text that it stands for, so that its
-- halves can be read here (`heading`).
--
-- In order: clients; headers; calls; the cases, by the request's sentences.
-- Assumes nothing.
use Prim.Native.Nat.{ℕ, ◌/◌, ◌%◌}
use Prim.Native.String.{String}
use mathlib.Core.Path.{◌≡◌, refl}
use mathlib.Core.Bool.{true}
use mathlib.Core.List.{List, [], ◌∷◌, ◌++◌, map}
use lib.ListN.{length, take, replicate}
use Rattle.octets.specs.Text.{bytes}
use Rattle.octets.specs.Lists.{every, same}
use Rattle.encoding.specs.Hex.{hex_digit}
use Rattle.encoding.specs.Base64.{standard, base64_text, digit64}
use Rattle.form_coding.specs.Coding.{encode, encode_byte}
use Rattle.client_registry.specs.Registry.{Client, record_size, records_behind, fit_registry, clients_of}
use Rattle.client_registry.specs.Sample.{record_of, registry_of, sample_confidential, sample_public}
use Rattle.protocol.specs.ClientForms.{header_of}
use Rattle.protocol.proofs.Computing.{text_definitions, registry_definitions, slot_definitions, decision_definitions, client_definitions, token_definitions, credentials_definitions}
use Rattle.protocol.proofs.Cases.{count_up, Row}
use Rattle.protocol.proofs.TokenRows.{agrees_on, row_on}
use Rattle.protocol.proofs.TokenCases.{handle, crowded, held, invalid_request, challenged, invalid_grant, invalid_scope, unsupported, no_room, clash, two_handles, Visit, case_on, refused, refuses, basic, exchange, padded, ask, exchanges}
use Rattle.protocol.proofs.CredentialsCases.{for_itself, grants_to}

-- ---- clients

abbrev confidential : List ℕ → List ℕ → ℕ → Client
confidential id secret scope = record { confidential = true; id = id; redirect = bytes "https://pool.example/"; scope = scope; secret = secret }

-- "A client's secret is `a%b`"
abbrev pool : Client
pool = confidential (bytes "pool") (bytes "a%b") 64

-- a space in either half, and a percent sign at the end of the id
abbrev silo : Client
silo = confidential (bytes "silo 50%") (bytes "x y") 8

-- two of which one's id and secret are codings of the other's
abbrev plus : Client
plus = confidential (bytes "a+b") (bytes "s+%41") 16

abbrev space : Client
space = confidential (bytes "a b") (bytes "s A") 32

-- every kind of percent sign that begins no escape
abbrev percents : Client
percents = confidential (bytes "%m%4g%zz%4") (bytes "%s%4g%zz%") 1

-- what parts the pieces of a form, and ends its names
abbrev pieces : Client
pieces = confidential (bytes "a&b=c") (bytes "d=e&f") 1

-- a colon in the secret
abbrev colon : Client
colon = confidential (bytes "mi") (bytes "ll:sec") 1

-- "1 to 32 bytes", "1 to 64 bytes": the longest, 40 to 5F hex and 3E to 7D hex
abbrev long_id : List ℕ
long_id = count_up 32 0x40

abbrev long_secret : List ℕ
long_secret = count_up 64 0x3E

abbrev clients : List Client
clients =
    sample_confidential ∷ sample_public ∷ pool ∷ silo ∷ plus ∷ space ∷ percents ∷ pieces ∷ colon ∷ confidential long_id long_secret 1 ∷ []

registry : List ℕ
registry = registry_of clients

registry-fit : fit_registry registry ≡ true
unfolding registry_definitions registry every same
registry-fit = refl

registry-clients : clients_of registry ≡ clients
unfolding registry records_behind record_size sample_public sample_confidential registry_of record_of
registry-clients = refl

abbrev row : (v : Visit) → agrees_on clients (case_on registry v) ≡ true → Row
row v agreed = row_on (case_on registry v) registry-fit clients registry-clients agreed

-- ---- headers

-- the header whose base64 stands for these bytes, and for a text: an id, a colon and a secret, each coded
abbrev headed : List ℕ → List ℕ
headed pair = bytes "Basic " ++ base64_text standard pair

abbrev heading : String → List ℕ
heading pair = headed (bytes pair)

-- against another tool: with no padding, with one `=`, with two
base64-headings : map heading ("s6BhdRkqt3:gX1fBat3bV" ∷ "pool:a%b" ∷ "pool:a%25b" ∷ [])
    ≡ basic ∷ bytes "Basic cG9vbDphJWI=" ∷ bytes "Basic cG9vbDphJTI1Yg==" ∷ []
unfolding base64_text digit64
base64-headings = refl

-- "id and secret form-encoded before Basic": what a client writes of its own. The cases let each in with it
written-headers : map (λ (c : Client). header_of c.id c.secret) (sample_confidential ∷ pool ∷ silo ∷ plus ∷ percents ∷ pieces ∷ colon ∷ [])
    ≡ map heading
    ("s6BhdRkqt3:gX1fBat3bV"
    ∷ "pool:a%25b"
    ∷ "silo+50%25:x+y"
    ∷ "a%2Bb:s%2B%2541"
    ∷ "%25m%254g%25zz%254:%25s%254g%25zz%25"
    ∷ "a%26b%3Dc:d%3De%26f"
    ∷ "mi:ll%3Asec"
    ∷ [])
unfolding header_of encode encode_byte hex_digit base64_text digit64 sample_confidential
written-headers = refl

-- a half of which every byte is an escape
abbrev escaped : List ℕ → List ℕ
escaped [] = []
escaped (b ∷ bs) = 37 ∷ hex_digit 65 (b / 16) ∷ hex_digit 65 (b % 16) ∷ escaped bs

-- the header of two such halves, and of two as they stand
abbrev all_escaped : List ℕ → List ℕ → List ℕ
all_escaped id secret = headed (escaped id ++ 58 ∷ escaped secret)

abbrev unescaped : List ℕ → List ℕ → List ℕ
unescaped id secret = headed (id ++ 58 ∷ secret)

-- the longest that lets a client in
longest-header : length (all_escaped long_id long_secret) ≡ 394
unfolding base64_text
longest-header = refl

-- the request's, and its client's secret as it stands
abbrev right : List ℕ
right = heading "pool:a%25b"

abbrev malformed : List ℕ
malformed = heading "pool:a%b"

-- ---- calls

-- one that is let in, and refused for its grant_type; one that is not let in
abbrev lets_in : String → Visit
lets_in pair = refuses (heading pair) ask unsupported

abbrev shuts_out : String → Visit
shuts_out pair = refuses (heading pair) ask challenged

-- the same with a client_id in the body
abbrev lets_in_beside : String → String → Visit
lets_in_beside pair id = refuses (heading pair) (ask ++ bytes "&client_id=" ++ bytes id) unsupported

abbrev shuts_out_beside : String → String → Visit
shuts_out_beside pair id = refuses (heading pair) (ask ++ bytes "&client_id=" ++ bytes id) challenged

-- ---- the table

pub header_cases : List Row
unfolding text_definitions slot_definitions decision_definitions client_definitions token_definitions credentials_definitions base64_text digit64 sample_confidential sample_public
header_cases =
    -- ---- "A client's secret is `a%b`, and its library sends it in the header as `a%25b`.": it is served
    row (grants_to 2 right for_itself "pump" 64) refl
    ∷ row (refuses right ask unsupported) refl
    -- "the worked header decodes as before"
    ∷ row (exchanges basic exchange) refl
    ∷ row (refuses basic ask unsupported) refl
    -- ---- "Split at the first colon": another one stands in the secret, as it is or as an escape, and is not the secret's end
    ∷ row (lets_in "mi:ll:sec") refl
    ∷ row (lets_in "mi:ll%3Asec") refl
    ∷ row (lets_in "mi:ll%3asec") refl
    ∷ row (shuts_out "mi:ll") refl
    ∷ row (shuts_out "mi::ll:sec") refl
    -- "then decode": an escape of a colon splits nothing, before a colon or where there is none
    ∷ row (shuts_out "mi%3All:sec") refl
    ∷ row (shuts_out "mi%3all:sec") refl
    ∷ row (shuts_out "mi%3All%3Asec") refl
    ∷ row (shuts_out "pool%3Aa%25b") refl
    -- ---- "decode each half by the form rules": "`+` is a space". A space as `+`, as an escape, as it is; a plus sign is none
    ∷ row (lets_in "silo+50%25:x+y") refl
    ∷ row (lets_in "silo%2050%25:x%20y") refl
    ∷ row (lets_in "silo 50%25:x y") refl
    ∷ row (lets_in "silo+50%25:x y") refl
    ∷ row (lets_in "silo 50%25:x+y") refl
    ∷ row (shuts_out "silo%2B50%25:x+y") refl
    ∷ row (shuts_out "silo+50%25:x%2By") refl
    ∷ row (shuts_out "silo++50%25:x+y") refl
    ∷ row (shuts_out "silo50%25:x+y") refl
    -- "`%` with two hex digits of either case a byte": digits of either case; letters that need no escape; another byte
    ∷ row (lets_in "p%6Fol:a%25b") refl
    ∷ row (lets_in "p%6fol:a%25b") refl
    ∷ row (lets_in "a%2bb:s%2b%2541") refl
    ∷ row (lets_in "pool:%61%25%62") refl
    ∷ row (exchanges (all_escaped (bytes "s6BhdRkqt3") (bytes "gX1fBat3bV")) exchange) refl
    ∷ row (shuts_out "p%4Fol:a%25b") refl
    ∷ row (shuts_out "pool:%41%25b") refl
    -- once: what is coded twice is another id, and another secret
    ∷ row (shuts_out "%2570ool:a%25b") refl
    ∷ row (shuts_out "pool:a%2525b") refl
    -- `&` and `=` stand for themselves, as their escapes do; they end nothing
    ∷ row (lets_in "a&b=c:d=e&f") refl
    ∷ row (lets_in "a%26b%3Dc:d%3De%26f") refl
    ∷ row (shuts_out "a&b=:d=e&f") refl
    ∷ row (shuts_out "pool&a=b:a%25b") refl
    ∷ row (shuts_out "pool:a%25b&c=d") refl
    ∷ row (shuts_out "pool:c=a%25b") refl
    -- ---- no second try with the halves as they stand. `a+b` and `s+%41` are one client's id and secret; as halves they say another's, and
    -- that one is served. Its own as they are say the same; the first client's must be coded
    ∷ row (grants_to 5 (heading "a+b:s+%41") for_itself "drying" 32) refl
    ∷ row (grants_to 5 (heading "a b:s A") for_itself "drying" 32) refl
    ∷ row (grants_to 4 (heading "a%2Bb:s%2B%2541") for_itself "milking" 16) refl
    -- one half coded and one as it stands; in the secret the `+` alone as it stands, the `%` alone
    ∷ row (shuts_out "a%2Bb:s+%41") refl
    ∷ row (shuts_out "a+b:s%2B%2541") refl
    ∷ row (shuts_out "a%2Bb:s+%2541") refl
    ∷ row (shuts_out "a%2Bb:s%2B%41") refl
    -- ---- "a malformed half is `invalid_client`". All but one `%` of the client's are escapes: the one at the start of the half, with one
    -- digit, with none, at the end with one and with none. If it stood for itself the half would be right
    ∷ row (lets_in "%25m%254g%25zz%254:%25s%254g%25zz%25") refl
    ∷ row (shuts_out "%m%254g%25zz%254:%25s%254g%25zz%25") refl
    ∷ row (shuts_out "%25m%4g%25zz%254:%25s%254g%25zz%25") refl
    ∷ row (shuts_out "%25m%254g%zz%254:%25s%254g%25zz%25") refl
    ∷ row (shuts_out "%25m%254g%25zz%4:%25s%254g%25zz%25") refl
    ∷ row (shuts_out "silo+50%:x+y") refl
    ∷ row (shuts_out "%25m%254g%25zz%254:%s%254g%25zz%25") refl
    ∷ row (shuts_out "%25m%254g%25zz%254:%25s%4g%25zz%25") refl
    ∷ row (shuts_out "%25m%254g%25zz%254:%25s%254g%zz%25") refl
    ∷ row (refuses malformed ask challenged) refl
    ∷ row (shuts_out "%25m%254g%25zz%254:%25s%254g%25zz%") refl
    -- all of them as they are: in the id, in the secret, in both
    ∷ row (shuts_out "%m%4g%zz%4:%25s%254g%25zz%25") refl
    ∷ row (shuts_out "%25m%254g%25zz%254:%s%4g%zz%") refl
    ∷ row (shuts_out "%m%4g%zz%4:%s%4g%zz%") refl
    -- one `%` too many: without it the half would be right
    ∷ row (shuts_out "%pool:a%25b") refl
    ∷ row (shuts_out "po%ol:a%25b") refl
    ∷ row (shuts_out "pool%:a%25b") refl
    ∷ row (shuts_out "pool:%a%25b") refl
    ∷ row (shuts_out "pool:a%25%b") refl
    ∷ row (shuts_out "pool:a%25b%") refl
    -- after `invalid_request`: both apply; the second alone does above
    ∷ row (refuses malformed (ask ++ bytes "&client_secret=a%25b") invalid_request) refl
    ∷ row (refuses malformed (ask ++ bytes "&a=%") invalid_request) refl
    ∷ row (refuses malformed (ask ++ bytes "&scope=power&scope=power") invalid_request) refl
    ∷ row (refuses malformed [] invalid_request) refl
    ∷ row (refuses malformed (padded 4097 ask) invalid_request) refl
    ∷ row (refuses malformed (padded 4096 ask) challenged) refl
    -- before `unsupported_grant_type` (above), `invalid_request` for a code that is missing, `invalid_grant`, `invalid_scope`, 503 and 500: both
    -- apply, and the first is mended
    ∷ row (refuses malformed (bytes "grant_type=authorization_code") challenged) refl
    ∷ row (refuses right (bytes "grant_type=authorization_code") invalid_request) refl
    ∷ row (refuses malformed (bytes "grant_type=authorization_code&code=x") challenged) refl
    ∷ row (refuses right (bytes "grant_type=authorization_code&code=x") invalid_grant) refl
    ∷ row (refuses malformed (for_itself ++ bytes "&scope=cows") challenged) refl
    ∷ row (refuses right (for_itself ++ bytes "&scope=cows") invalid_scope) refl
    ∷ row (refused (crowded []) 1599 two_handles malformed for_itself challenged) refl
    ∷ row (refused (crowded []) 1599 two_handles right for_itself no_room) refl
    ∷ row (refused held 1599 (handle 100 ++ handle 52) malformed for_itself challenged) refl
    ∷ row (refused held 1599 (handle 100 ++ handle 52) right for_itself clash) refl
    -- a call that is granted with a sound header: no token is issued, and no code is spent
    ∷ row (refuses malformed for_itself challenged) refl
    ∷ row (refuses (heading "s6BhdRkqt3:gX1fBat3bV%") exchange challenged) refl
    -- ---- "header and body ids differ": the body's client_id is compared with the decoded id, however each is written; one that is the half as
    -- it stands, whole or in part, is another id
    ∷ row (lets_in_beside "silo+50%25:x+y" "silo+50%25") refl
    ∷ row (lets_in_beside "silo%2050%25:x+y" "%73ilo+50%25") refl
    ∷ row (shuts_out_beside "silo+50%25:x+y" "silo%2B50%2525") refl
    ∷ row (shuts_out_beside "silo+50%25:x+y" "silo+50%2525") refl
    ∷ row (lets_in_beside "a+b:s+%41" "a+b") refl
    ∷ row (shuts_out_beside "a+b:s+%41" "a%2Bb") refl
    ∷ row (lets_in_beside "a%2Bb:s%2B%2541" "a%2Bb") refl
    ∷ row (shuts_out_beside "a%2Bb:s%2B%2541" "a+b") refl
    ∷ row (shuts_out_beside "a%2Bb:s%2B%2541" "a%252Bb") refl
    -- ---- "Ids: 1 to 32 bytes", "Secrets: 1 to 64 bytes": the longest, and every byte of them an escape; one byte more or less in either half
    ∷ row (refuses (unescaped long_id long_secret) ask unsupported) refl
    ∷ row (refuses (all_escaped long_id long_secret) ask unsupported) refl
    ∷ row (refuses (all_escaped (long_id ++ 97 ∷ []) long_secret) ask challenged) refl
    ∷ row (refuses (all_escaped (97 ∷ long_id) long_secret) ask challenged) refl
    ∷ row (refuses (all_escaped (take 31 long_id) long_secret) ask challenged) refl
    ∷ row (refuses (all_escaped long_id (long_secret ++ 97 ∷ [])) ask challenged) refl
    ∷ row (refuses (all_escaped long_id (97 ∷ long_secret)) ask challenged) refl
    ∷ row (refuses (all_escaped long_id (take 63 long_secret)) ask challenged) refl
    -- longer halves are not cut: one byte more as it stands, 256 more, as many as 512 bytes have room for
    ∷ row (refuses (unescaped (long_id ++ 97 ∷ []) long_secret) ask challenged) refl
    ∷ row (refuses (unescaped long_id (long_secret ++ 97 ∷ [])) ask challenged) refl
    ∷ row (refuses (unescaped (long_id ++ replicate 256 97) long_secret) ask challenged) refl
    ∷ row (refuses (unescaped long_id (long_secret ++ replicate 256 97)) ask challenged) refl
    ∷ row (refuses (unescaped (long_id ++ replicate 281 97) long_secret) ask challenged) refl
    ∷ row (refuses (unescaped long_id (long_secret ++ replicate 281 97)) ask challenged) refl
    ∷ row (refuses (headed (escaped long_id ++ 58 ∷ escaped long_secret ++ replicate 89 97)) ask challenged) refl
    -- no bytes: no id, no secret, neither; and behind a public client's id
    ∷ row (shuts_out ":a%25b") refl
    ∷ row (shuts_out "pool:") refl
    ∷ row (shuts_out ":") refl
    ∷ row (shuts_out "barn%61pp:") refl
    ∷ row (shuts_out_beside "barn%61pp:" "barnapp") refl
    -- a half may decode to any bytes: a zero, a line end and one above 7E behind it; letters with their highest bit
    ∷ row (shuts_out "pool%00:a%25b") refl
    ∷ row (shuts_out "pool:a%25b%00") refl
    ∷ row (shuts_out "pool:a%25b%0D%0A") refl
    ∷ row (shuts_out "pool%7F:a%25b") refl
    ∷ row (shuts_out "p%EF%EFl:a%25b") refl
    ∷ row (shuts_out "pool:%E1%25b") refl
    ∷ []
