-- The nodes of an invoice: their names, attributes and children, in the order of the cadena.
use Rattle.std.specs.Prelude.{ℕ, Bool, true, false, List, [], ◌∷◌, codes, ◌==◌}
use Rattle.rules.specs.declared.schema.Catalogue.TheVariants.{FormaPago, Moneda, TipoDeComprobante, Exportacion, MetodoPago, CodigoPostal, RegimenFiscal, ResidenciaFiscal, UsoCFDI, ClaveProdServ, ClaveUnidad, ObjetoImp, Impuesto, TipoFactor}
use Rattle.rules.specs.declared.schema.FixedText.TheVariants.{Version, CfdiNamespace, XsiNamespace, SchemaLocation}
use Rattle.rules.specs.declared.schema.Kind.{Kind}
use Rattle.rules.specs.declared.schema.Kind.TheVariants.{Fixed, Text, Amount, Positive, DateTime, Digits, Mark, Rfc, Seal, Code}
use Rattle.rules.specs.declared.schema.Node.{Node}
use Rattle.rules.specs.declared.schema.Node.TheVariants.{Comprobante, Emisor, Receptor, Conceptos, Concepto, ConceptoImpuestos, ConceptoTraslados, ConceptoTraslado, ConceptoRetenciones, ConceptoRetencion, Impuestos, Retenciones, Retencion, Traslados, Traslado}

-- an attribute of a node: its name, its kind, whether it is required, and whether it is part of the cadena
pub record Row : Type 0 where
  pub name : List ℕ
  pub kind : Kind
  pub required : Bool
  pub in_cadena : Bool

-- a required attribute
abbrev pub must : List ℕ → Kind → Row
must n k = record { name = n; kind = k; required = true; in_cadena = true }

-- an optional attribute
abbrev pub may : List ℕ → Kind → Row
may n k = record { name = n; kind = k; required = false; in_cadena = true }

-- a seal or a certificate, which is required and no part of the cadena
abbrev pub sealed : List ℕ → Row
sealed n = record { name = n; kind = Seal; required = true; in_cadena = false }

-- the attributes that fix the namespaces: required at the root, and no part of the values
abbrev pub namespaces : Node → List Row
namespaces Comprobante =
    must (codes "xmlns:cfdi") (Fixed CfdiNamespace)
    ∷ must (codes "xmlns:xsi") (Fixed XsiNamespace)
    ∷ must (codes "xsi:schemaLocation") (Fixed SchemaLocation)
    ∷ []
namespaces Emisor = []
namespaces Receptor = []
namespaces Conceptos = []
namespaces Concepto = []
namespaces ConceptoImpuestos = []
namespaces ConceptoTraslados = []
namespaces ConceptoTraslado = []
namespaces ConceptoRetenciones = []
namespaces ConceptoRetencion = []
namespaces Impuestos = []
namespaces Retenciones = []
namespaces Retencion = []
namespaces Traslados = []
namespaces Traslado = []

-- the attributes of a node, in the order of the cadena
abbrev pub attributes : Node → List Row
attributes Comprobante =
    must (codes "Version") (Fixed Version)
    ∷ may (codes "Serie") (Text 25)
    ∷ may (codes "Folio") (Text 40)
    ∷ must (codes "Fecha") DateTime
    ∷ may (codes "FormaPago") (Code FormaPago)
    ∷ must (codes "NoCertificado") (Digits 20)
    ∷ may (codes "CondicionesDePago") (Text 1000)
    ∷ must (codes "SubTotal") Amount
    ∷ may (codes "Descuento") Amount
    ∷ must (codes "Moneda") (Code Moneda)
    ∷ may (codes "TipoCambio") Positive
    ∷ must (codes "Total") Amount
    ∷ must (codes "TipoDeComprobante") (Code TipoDeComprobante)
    ∷ must (codes "Exportacion") (Code Exportacion)
    ∷ may (codes "MetodoPago") (Code MetodoPago)
    ∷ must (codes "LugarExpedicion") (Code CodigoPostal)
    ∷ may (codes "Confirmacion") Mark
    ∷ sealed (codes "Sello")
    ∷ sealed (codes "Certificado")
    ∷ []
attributes Emisor =
    must (codes "Rfc") Rfc
    ∷ must (codes "Nombre") (Text 254)
    ∷ must (codes "RegimenFiscal") (Code RegimenFiscal)
    ∷ may (codes "FacAtrAdquirente") (Digits 10)
    ∷ []
attributes Receptor =
    must (codes "Rfc") Rfc
    ∷ must (codes "Nombre") (Text 254)
    ∷ must (codes "DomicilioFiscalReceptor") (Digits 5)
    ∷ may (codes "ResidenciaFiscal") (Code ResidenciaFiscal)
    ∷ may (codes "NumRegIdTrib") (Text 40)
    ∷ must (codes "RegimenFiscalReceptor") (Code RegimenFiscal)
    ∷ must (codes "UsoCFDI") (Code UsoCFDI)
    ∷ []
attributes Conceptos = []
attributes Concepto =
    must (codes "ClaveProdServ") (Code ClaveProdServ)
    ∷ may (codes "NoIdentificacion") (Text 100)
    ∷ must (codes "Cantidad") Positive
    ∷ must (codes "ClaveUnidad") (Code ClaveUnidad)
    ∷ may (codes "Unidad") (Text 20)
    ∷ must (codes "Descripcion") (Text 1000)
    ∷ must (codes "ValorUnitario") Amount
    ∷ must (codes "Importe") Amount
    ∷ may (codes "Descuento") Amount
    ∷ must (codes "ObjetoImp") (Code ObjetoImp)
    ∷ []
attributes ConceptoImpuestos = []
attributes ConceptoTraslados = []
attributes ConceptoTraslado =
    must (codes "Base") Positive
    ∷ must (codes "Impuesto") (Code Impuesto)
    ∷ must (codes "TipoFactor") (Code TipoFactor)
    ∷ may (codes "TasaOCuota") Amount
    ∷ may (codes "Importe") Amount
    ∷ []
attributes ConceptoRetenciones = []
attributes ConceptoRetencion =
    must (codes "Base") Positive
    ∷ must (codes "Impuesto") (Code Impuesto)
    ∷ must (codes "TipoFactor") (Code TipoFactor)
    ∷ must (codes "TasaOCuota") Amount
    ∷ must (codes "Importe") Amount
    ∷ []
attributes Impuestos =
    may (codes "TotalImpuestosRetenidos") Amount
    ∷ may (codes "TotalImpuestosTrasladados") Amount
    ∷ []
attributes Retenciones = []
attributes Retencion =
    must (codes "Impuesto") (Code Impuesto)
    ∷ must (codes "Importe") Amount
    ∷ []
attributes Traslados = []
attributes Traslado =
    must (codes "Base") Amount
    ∷ must (codes "Impuesto") (Code Impuesto)
    ∷ must (codes "TipoFactor") (Code TipoFactor)
    ∷ may (codes "TasaOCuota") Amount
    ∷ may (codes "Importe") Amount
    ∷ []

-- the name that a node's tags carry
abbrev pub tag : Node → List ℕ
tag Comprobante = codes "cfdi:Comprobante"
tag Emisor = codes "cfdi:Emisor"
tag Receptor = codes "cfdi:Receptor"
tag Conceptos = codes "cfdi:Conceptos"
tag Concepto = codes "cfdi:Concepto"
tag ConceptoImpuestos = codes "cfdi:Impuestos"
tag ConceptoTraslados = codes "cfdi:Traslados"
tag ConceptoTraslado = codes "cfdi:Traslado"
tag ConceptoRetenciones = codes "cfdi:Retenciones"
tag ConceptoRetencion = codes "cfdi:Retencion"
tag Impuestos = codes "cfdi:Impuestos"
tag Retenciones = codes "cfdi:Retenciones"
tag Retencion = codes "cfdi:Retencion"
tag Traslados = codes "cfdi:Traslados"
tag Traslado = codes "cfdi:Traslado"

-- a child with its least and greatest count
pub record Child : Type 0 where
  pub node : Node
  pub least : ℕ
  pub most : ℕ

-- from l to m children of one node
abbrev pub child : Node → ℕ → ℕ → Child
child n l m = record { node = n; least = l; most = m }

-- the children of a node, in order
abbrev pub children : Node → List Child
children Comprobante = child Emisor 1 1 ∷ child Receptor 1 1 ∷ child Conceptos 1 1 ∷ child Impuestos 0 1 ∷ []
children Emisor = []
children Receptor = []
children Conceptos = child Concepto 1 256 ∷ []
children Concepto = child ConceptoImpuestos 0 1 ∷ []
children ConceptoImpuestos = child ConceptoTraslados 0 1 ∷ child ConceptoRetenciones 0 1 ∷ []
children ConceptoTraslados = child ConceptoTraslado 1 8 ∷ []
children ConceptoTraslado = []
children ConceptoRetenciones = child ConceptoRetencion 1 8 ∷ []
children ConceptoRetencion = []
children Impuestos = child Retenciones 0 1 ∷ child Traslados 0 1 ∷ []
children Retenciones = child Retencion 1 32 ∷ []
children Retencion = []
children Traslados = child Traslado 1 32 ∷ []
children Traslado = []

-- whether a node must have some child at all, whichever it is
abbrev pub needs_child : Node → Bool
needs_child Comprobante = false
needs_child Emisor = false
needs_child Receptor = false
needs_child Conceptos = false
needs_child Concepto = false
needs_child ConceptoImpuestos = true
needs_child ConceptoTraslados = false
needs_child ConceptoTraslado = false
needs_child ConceptoRetenciones = false
needs_child ConceptoRetencion = false
needs_child Impuestos = false
needs_child Retenciones = false
needs_child Retencion = false
needs_child Traslados = false
needs_child Traslado = false

-- a node's number, by which two nodes are told apart
abbrev pub index : Node → ℕ
index Comprobante = 0
index Emisor = 1
index Receptor = 2
index Conceptos = 3
index Concepto = 4
index ConceptoImpuestos = 5
index ConceptoTraslados = 6
index ConceptoTraslado = 7
index ConceptoRetenciones = 8
index ConceptoRetencion = 9
index Impuestos = 10
index Retenciones = 11
index Retencion = 12
index Traslados = 13
index Traslado = 14

-- two nodes are of one kind
abbrev pub is : Node → Node → Bool
is a b = index a == index b
