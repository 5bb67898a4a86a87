-- What a whole request is: one that has a fixed answer, or one that makes calls.
use Rattle.std.specs.Prelude.{◌≡◌, ◌⊎◌, ℕ, Bool, ◌||◌, List, [], ◌∷◌, bytes_eq, codes, ◌==◌, if◌then◌else◌, Option, Some, None, length}
use Rattle.httparse.specs.Grammar.{trim_ows}
use Rattle.labels.specs.Tenants.{is_tenant}
use Rattle.requests.specs.Fields.{Field, is_same_word, values_of, has_field, has_word, before}
use Rattle.requests.specs.declared.route.Route.{Route}
use Rattle.requests.specs.declared.route.Route.TheVariants.{Push, Read, Trim}
use Rattle.requests.specs.declared.route.Endpoint.{Endpoint}
use Rattle.requests.specs.declared.route.Endpoint.TheVariants as At
use Rattle.requests.specs.declared.fixed.Method.{Method}
use Rattle.requests.specs.declared.fixed.Method.TheVariants.{Get, Post}
use Rattle.requests.specs.declared.fixed.FixedAnswer.TheVariants.{NotFound, MethodNotAllowed, Ready, NoOrgId, BadTenant, ContentEncoding, ContentType}
use Rattle.requests.specs.declared.verdict.Verdict.{Verdict}
use Rattle.requests.specs.declared.verdict.Verdict.TheVariants as Is

-- the target without its query
abbrev pub path_of : List ℕ → List ℕ
path_of target = before 63 target

abbrev pub endpoint_of : List ℕ → Option Endpoint
endpoint_of path =
    if bytes_eq path (codes "/loki/api/v1/push") then Some (At.Call Push)
    else if bytes_eq path (codes "/ingester/v1/read") then Some (At.Call Read)
    else if bytes_eq path (codes "/ingester/v1/trim") then Some (At.Call Trim)
    else if bytes_eq path (codes "/ready") then Some At.Ready
    else None

-- the one method that is answered there
abbrev pub method_of : Endpoint → Method
method_of (At.Call route) = Post
method_of At.Ready = Get

abbrev pub method_text : Method → List ℕ
method_text Get = codes "GET"
method_text Post = codes "POST"

-- a value of Content-Type that says JSON, whatever parameters follow
abbrev pub is_json_type : List ℕ → Bool
is_json_type value = is_same_word (trim_ows (before 59 value)) (codes "application/json")

-- the tests after the tenant's
abbrev pub verdict_of_types : Verdict → List (List ℕ) → Verdict
verdict_of_types call [] = Is.Fixed ContentType
verdict_of_types call (value ∷ []) = if is_json_type value then call else Is.Fixed ContentType
verdict_of_types call (value ∷ second ∷ more) = Is.Fixed ContentType

abbrev pub verdict_of_content : Verdict → List Field → Verdict
verdict_of_content call fields =
    if has_field (codes "content-encoding") fields then Is.Fixed ContentEncoding
    else verdict_of_types call (values_of (codes "content-type") fields)

-- the tests from the tenant's on, by the values of X-Scope-OrgID
abbrev pub verdict_of_tenants : Route → List (List ℕ) → List Field → Verdict
verdict_of_tenants route [] fields = Is.Fixed NoOrgId
verdict_of_tenants route (tenant ∷ []) fields =
    if length tenant == 0 then Is.Fixed NoOrgId
    else if is_tenant tenant then verdict_of_content (Is.Call route tenant) fields
    else Is.Fixed BadTenant
verdict_of_tenants route (tenant ∷ second ∷ more) fields = Is.Fixed BadTenant

abbrev pub tenants_of : List Field → List (List ℕ)
tenants_of fields = values_of (codes "x-scope-orgid") fields

abbrev pub verdict_at : Endpoint → List Field → Verdict
verdict_at At.Ready fields = Is.Fixed Ready
verdict_at (At.Call route) fields = verdict_of_tenants route (tenants_of fields) fields

abbrev pub verdict_of_endpoint : List ℕ → Option Endpoint → List Field → Verdict
verdict_of_endpoint method None fields = Is.Fixed NotFound
verdict_of_endpoint method (Some endpoint) fields =
    if bytes_eq method (method_text (method_of endpoint)) then verdict_at endpoint fields
    else Is.Fixed (MethodNotAllowed (method_of endpoint))

-- what a request with this method, target and these fields is, whose body was read
abbrev pub verdict_of : List ℕ → List ℕ → List Field → Verdict
verdict_of method target fields = verdict_of_endpoint method (endpoint_of (path_of target)) fields

-- a request for calls
abbrev pub AsksForCalls : Verdict → Type 0
AsksForCalls verdict = (route : Route) × (tenant : List ℕ) × (verdict ≡ Is.Call route tenant)

-- for a request of this verdict it is found, unless there was no memory for the tenant of its calls
abbrev pub IsFoundVerdict : Verdict → Verdict → Type 0
IsFoundVerdict verdict found = (found ≡ verdict) ⊎ ((found ≡ Is.NoMemory) × AsksForCalls verdict)

-- what is found of a request with this method, target and these fields
abbrev pub IsVerdict : List ℕ → List ℕ → List Field → Verdict → Type 0
IsVerdict method target fields found = IsFoundVerdict (verdict_of method target fields) found

-- HTTP/1.0, or a field `Connection` that lists `close`
abbrev pub asks_close : ℕ → List Field → Bool
asks_close minor fields = (minor == 0) || has_word (codes "connection") (codes "close") fields
