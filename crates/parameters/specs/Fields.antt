-- For contracts inside; the exports' contracts do not cite it.
--
-- What a field says of its name.
use Rattle.std.specs.Prelude.{ℕ, ◌≡◌, List}
use Rattle.form.specs.Content.{Value, form_value}
use Rattle.form.specs.Places.{view_of}
use Rattle.parameters.specs.declared.fields.Field.{Field}

-- what the field's form says of its name
abbrev pub said_by : Field → Value
said_by f = view_of f.form.now f.place

-- the field is one of the form s, and says of the name what the form's pieces say
pub record IsField (s name : List ℕ) (f : Field) : Type 0 where
  pub form : f.form.now ≡ s
  pub value : said_by f ≡ form_value s name
